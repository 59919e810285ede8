-- What tasks bring in P ticks, P a common multiple of their periods.
use Rattle.std.proofs.Common.{◌≡◌, ℕ, zero, suc, ◌+◌, ◌*◌, ◌/◌, ◌<◌, ◌≤◌, Bool, true, false, cond, eqb, leb, List, [], ◌∷◌, length, sym, refl, ap, ◌∙◌, subst, mul_comm, zero-mul, mul-div_cancel, arith}
use Rattle.std.proofs.lemmas.Bool.Decides.{nat_tests}
use Rattle.std.proofs.lemmas.Bool.{eq-eqb, ne_eqb, le-leb, cond-true, cond-false}
use Rattle.periods.specs.Divisors.{Divides}
use Rattle.tasks.specs.declared.figures.Figures.{Figures}
use Rattle.tasks.specs.Loads.{load_in}
use Rattle.timeline.specs.Processor.{sum_below}
use Rattle.timeline.specs.Timeline.{task_at, demanded}
use Rattle.timeline.specs.Laws.{AllFair, Spans, through, load_through, Alone}
use Rattle.timeline.proofs.Backlog.{brought, sum_below_same, sum_below_add, sum_below_mono}
use Rattle.timeline.proofs.Repeats.{Periodic}
use Rattle.timeline.proofs.Streams.{brought_most, brought-since, stream_periodic}
use Rattle.timeline.proofs.Members.{counted, joint, joint-brought, joint_periodic, counted_mono, counted_same}
use Rattle.timeline.proofs.Levels.{higher, single}

-- the units that one task brings in P ticks
abbrev pub share : List Figures → ℕ → ℕ → ℕ
share tasks P q = (task_at tasks q).work * (P / (task_at tasks q).period)

-- how often the task at a place comes round in P ticks
abbrev pub rounds : List Figures → ℕ → ℕ → ℕ
rounds tasks P q = P / (task_at tasks q).period

module _ (tasks : List Figures) (fair : AllFair tasks) (starts : ℕ → ℕ) (among : ℕ → Bool) (P m : ℕ) (spans : Spans tasks starts among P m) where
  pub period_positive : (q : ℕ) → q < length tasks → 0 < (task_at tasks q).period
  period_positive q l = let f = fair q l in omega arith

  pub whole_rounds : (q : ℕ) → q < length tasks → among q ≡ true → P ≡ rounds tasks P q * (task_at tasks q).period
  whole_rounds q l i = go (spans.common q l i)
    where
      go : Divides (task_at tasks q).period P → P ≡ rounds tasks P q * (task_at tasks q).period
      go (k, e) =
          let quotient : P / (task_at tasks q).period ≡ k =
          ap (λ x. x / (task_at tasks q).period) e ∙ mul-div_cancel k (period_positive q l)
          in
          e ∙ ap (λ x. x * (task_at tasks q).period) (sym quotient)

  pub rounds_positive : (q : ℕ) → q < length tasks → among q ≡ true → 0 < rounds tasks P q
  rounds_positive q l i = go (rounds tasks P q) (whole_rounds q l i)
    where
      go : (n : ℕ) → P ≡ n * (task_at tasks q).period → 0 < n
      go zero e = let z = zero-mul (task_at tasks q).period in let p = spans.positive in absurd (omega arith)
      go (suc n) e = omega arith

  pub task_periodic : (q : ℕ) → q < length tasks → among q ≡ true → Periodic P m (demanded tasks starts q)
  task_periodic q l i =
      subst (λ x. Periodic x m (demanded tasks starts q)) (sym (whole_rounds q l i))
      (stream_periodic (task_at tasks q).work (task_at tasks q).period (starts q) (rounds tasks P q) m (spans.started q l i))

  pub task_most : (q : ℕ) → q < length tasks → among q ≡ true → (a : ℕ) → brought (demanded tasks starts q) a P ≤ share tasks P q
  task_most q l i a =
      let b = brought_most (task_at tasks q).work (task_at tasks q).period (starts q) (rounds tasks P q) a (period_positive q l) in
      let e = ap (brought (demanded tasks starts q) a) (whole_rounds q l i) in
      let c = mul_comm (rounds tasks P q) (task_at tasks q).work in
      omega arith

  pub task_exact : (q : ℕ) → q < length tasks → among q ≡ true → (a : ℕ) → m ≤ a → brought (demanded tasks starts q) a P ≡ share tasks P q
  task_exact q l i a le =
      let s = spans.started q l i in
      let b = brought-since (task_at tasks q).work (task_at tasks q).period (starts q) (rounds tasks P q) a (period_positive q l) (omega arith) in
      let e = ap (brought (demanded tasks starts q) a) (whole_rounds q l i) in
      let c = mul_comm (rounds tasks P q) (task_at tasks q).work in
      omega arith

  -- the demand of any members among them has the period P, and brings at most their shares
  pub members_periodic : (member : ℕ → Bool) → ((q : ℕ) → member q ≡ true → among q ≡ true) → Periodic P m (joint member (demanded tasks starts) (length tasks))
  members_periodic member within =
      joint_periodic P m member (demanded tasks starts) (length tasks) (λ q l e. task_periodic q l (within q e))

  pub members_most :
      (member : ℕ → Bool) → ((q : ℕ) → member q ≡ true → among q ≡ true) → (a : ℕ) →
      brought (joint member (demanded tasks starts) (length tasks)) a P ≤ sum_below (counted member (share tasks P)) (length tasks)
  members_most member within a =
      let e = joint-brought member (demanded tasks starts) (length tasks) a P in
      let b = counted_mono member (λ q. brought (demanded tasks starts q) a P) (share tasks P) (length tasks) (λ q l e. task_most q l (within q e) a) in
      omega arith

  pub members_exact :
      (member : ℕ → Bool) → ((q : ℕ) → member q ≡ true → among q ≡ true) → (a : ℕ) → m ≤ a →
      brought (joint member (demanded tasks starts) (length tasks)) a P ≡ sum_below (counted member (share tasks P)) (length tasks)
  members_exact member within a le =
      joint-brought member (demanded tasks starts) (length tasks) a P
      ∙ counted_same member (λ q. brought (demanded tasks starts q) a P) (share tasks P) (length tasks) (λ q l e. task_exact q l (within q e) a le)

-- a place is among those down to its own level, and so are those above it
pub own_through : (levels : ℕ → ℕ) (q : ℕ) → through levels (levels q) q ≡ true
own_through levels q = le-leb (levels q) (levels q) (omega arith)

pub higher-through : (levels : ℕ → ℕ) (q p : ℕ) → higher levels q p ≡ true → through levels (levels q) p ≡ true
higher-through levels q p e = grind (arith, nat_tests)

-- the load down to a level is that of those above it and its own
pub load_parts :
    (tasks : List Figures) (levels : ℕ → ℕ) (q P : ℕ) → q < length tasks → Alone tasks levels q →
    load_through tasks levels (levels q) P ≡ sum_below (counted (higher levels q) (share tasks P)) (length tasks) + share tasks P q
load_parts tasks levels q P inside alone =
    sum_below_same _ _ (length tasks) (λ p l. split p)
    ∙ sum_below_add (counted (higher levels q) (share tasks P)) (λ p. cond (eqb (levels p) (levels q)) (share tasks P p) 0) (length tasks)
    ∙ ap (λ x. sum_below (counted (higher levels q) (share tasks P)) (length tasks) + x) own
  where
    split : (p : ℕ) → cond (leb (levels p) (levels q)) (share tasks P p) 0 ≡ counted (higher levels q) (share tasks P) p + cond (eqb (levels p) (levels q)) (share tasks P p) 0
    split p = grind (arith, nat_tests)

    own : sum_below (λ p. cond (eqb (levels p) (levels q)) (share tasks P p) 0) (length tasks) ≡ share tasks P q
    own =
        single (λ p. cond (eqb (levels p) (levels q)) (share tasks P p) 0) q (length tasks) inside
        (λ p l ne. cond-false (eqb (levels p) (levels q)) _ _ (ne_eqb (levels p) (levels q) (λ e. ne (alone p l e))))
        ∙ cond-true (eqb (levels q) (levels q)) _ _ (eq-eqb (levels q) (levels q) refl)

-- a sum from the front
pub sum_below_front : (f : ℕ → ℕ) (n : ℕ) → sum_below f (suc n) ≡ f 0 + sum_below (λ i. f (suc i)) n
sum_below_front f zero = omega arith
sum_below_front f (suc n) = let ih = sum_below_front f n in omega arith

-- the load of a list, as a sum over places
pub load_by_place : (P : ℕ) (tasks : List Figures) → load_in P tasks ≡ sum_below (share tasks P) (length tasks)
load_by_place P [] = refl
load_by_place P (f ∷ fs) = sym (sum_below_front (share (f ∷ fs) P) (length fs) ∙ ap (λ x. f.work * (P / f.period) + x) (sym (load_by_place P fs)))

-- any level's load is at most that of all
pub load_most : (tasks : List Figures) (levels : ℕ → ℕ) (level P : ℕ) → load_through tasks levels level P ≤ load_in P tasks
load_most tasks levels level P =
    let e = load_by_place P tasks in
    let b = sum_below_mono (λ q. cond (leb (levels q) level) (share tasks P q) 0) (share tasks P) (length tasks) (λ q l. part (leb (levels q) level) (share tasks P q)) in
    omega arith
  where
    part : (b : Bool) (x : ℕ) → cond b x 0 ≤ x
    part true x = omega arith
    part false x = omega arith
