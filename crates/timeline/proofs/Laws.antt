-- The laws of the timeline, for tasks with fair figures.
use Rattle.std.proofs.Common.{◌≡◌, ℕ, zero, suc, ◌+◌, ◌-◌, ◌*◌, ◌<◌, ◌≤◌, Bool, true, false, cond, ◌&&◌, eqb, ltb, List, length, sym, refl, ap, ◌∙◌, subst, mod-lt, div-add-mod', zero-mul, arith}
use Rattle.std.proofs.lemmas.Bool.{ltb-true, lt-ltb}
use Rattle.tasks.specs.declared.figures.Figures.{Figures}
use Rattle.timeline.specs.Processor.{sum_below, owing, ready, runs}
use Rattle.timeline.specs.Requests.{requested}
use Rattle.timeline.specs.Timeline.{task_at, demanded, demands, request_of, done_by, Late}
use Rattle.timeline.specs.Laws.{AllFair, Spans, through, load_through, Alone, Repeats, Decides, Overloaded, Independent, LessIsNeverLater, WorstStarts, rounds_in}
use Rattle.timeline.proofs.Backlog.{backlog, both, brought, since, sum_below_add, sum_below_same, sum_below_mono, above-owing, same_demand}
use Rattle.timeline.proofs.Repeats.{Light, Periodic, repeats}
use Rattle.timeline.proofs.Members.{counted, joint, joint-brought, counted_mono}
use Rattle.timeline.proofs.Streams.{brought_cover, less_work}
use Rattle.timeline.proofs.Lateness.{due, Behind, late_early}
use Rattle.timeline.proofs.Moves.{less_behind}
use Rattle.timeline.proofs.Overload.{overload}
use Rattle.timeline.proofs.WorstStart.{in_time_lem}
use Rattle.timeline.proofs.Levels.{higher, above_level, above_of, own_of, done_is, after, after_none, undone_behind, behind_undone}
use Rattle.timeline.proofs.Loads.{share, rounds, whole_rounds, rounds_positive, task_most, task_exact, members_periodic, members_most, members_exact, own_through, higher-through, load_parts, load_by_place}

pub repeats_law : (tasks : List Figures) → AllFair tasks → Repeats tasks
repeats_law tasks fair starts levels P m spans room τ level far = (ready_same level, runs_same)
  where
    D : ℕ → ℕ → ℕ
    D = demands tasks starts levels

    -- the demand of the levels above one
    front : ℕ → ℕ → ℕ
    front l σ = sum_below (λ i. demands tasks starts levels i σ) l

    members : ℕ → ℕ → ℕ
    members l = joint (λ p. ltb (levels p) l) (demanded tasks starts) (length tasks)

    light : (l : ℕ) → Light P (members l)
    light l a =
        let most = members_most tasks fair starts (λ p. true) P m spans (λ p. ltb (levels p) l) (λ p e. refl) a in
        let part = sum_below_mono (counted (λ p. ltb (levels p) l) (share tasks P)) (share tasks P) (length tasks) (λ p i. some (ltb (levels p) l) (share tasks P p)) in
        let all = load_by_place P tasks in
        omega arith
      where
        some : (b : Bool) (x : ℕ) → cond b x 0 ≤ x
        some true x = omega arith
        some false x = omega arith

    owed : (l σ : ℕ) → sum_below (owing (demands tasks starts levels) σ) l ≡ backlog (members l) σ
    owed l σ =
        above-owing (demands tasks starts levels) σ l
        ∙ same_demand 0 (front l) (members l) (above_level tasks starts levels l) σ

    owed_same : (l : ℕ) → sum_below (owing (demands tasks starts levels) (P + τ)) l ≡ sum_below (owing (demands tasks starts levels) τ) l
    owed_same l =
        owed l (P + τ)
        ∙ repeats P m (members l) spans.positive (light l) (members_periodic tasks fair starts (λ p. true) P m spans (λ p. ltb (levels p) l) (λ p e. refl)) τ far
        ∙ sym (owed l τ)

    front_same : (l : ℕ) → front l (P + τ) ≡ front l τ
    front_same l =
        above_level tasks starts levels l (P + τ)
        ∙ (members_periodic tasks fair starts (λ p. true) P m spans (λ p. ltb (levels p) l) (λ p e. refl)).keeps τ (omega arith)
        ∙ sym (above_level tasks starts levels l τ)

    ready_same : (l : ℕ) → ready (demands tasks starts levels) (P + τ) l ≡ ready (demands tasks starts levels) τ l
    ready_same l =
        let a = owed_same l in
        let b = owed_same (suc l) in
        let c = front_same l in
        let d = front_same (suc l) in
        omega arith

    runs_same : runs (demands tasks starts levels) (P + τ) level ≡ runs (demands tasks starts levels) τ level
    runs_same =
        let a = sum_below_same (ready (demands tasks starts levels) (P + τ)) (ready (demands tasks starts levels) τ) level (λ l i. ready_same l) in
        let b = ready_same level in
        ap (λ x. eqb x 0 && ltb 0 (ready (demands tasks starts levels) (P + τ) level)) a
        ∙ ap (λ x. eqb (sum_below (ready (demands tasks starts levels) τ) level) 0 && ltb 0 x) b

-- One task on a level of its own, and the ticks after which all repeats.
module _ (tasks : List Figures) (fair : AllFair tasks) (starts levels : ℕ → ℕ) (q P m : ℕ) (inside : q < length tasks)
    (alone : Alone tasks levels q) (spans : Spans tasks starts (through levels (levels q)) P m) where
  abbrev c : ℕ
  c = (task_at tasks q).work

  abbrev t : ℕ
  t = (task_at tasks q).period

  abbrev h : ℕ
  h = rounds tasks P q

  round : P ≡ h * t
  round = whole_rounds tasks fair starts (through levels (levels q)) P m spans q inside (own_through levels q)

  brought-both : (a : ℕ) → brought (both (above_of tasks starts levels q) (own_of tasks starts levels q)) a P ≡ brought (above_of tasks starts levels q) a P + brought (own_of tasks starts levels q) a P
  brought-both a = sum_below_add (since a (above_of tasks starts levels q)) (since a (own_of tasks starts levels q)) P

  pub all_light : load_through tasks levels (levels q) P ≤ P → Light P (both (above_of tasks starts levels q) (own_of tasks starts levels q))
  all_light room a =
      let e = brought-both a in
      let above = members_most tasks fair starts (through levels (levels q)) P m spans (higher levels q) (higher-through levels q) a in
      let own = task_most tasks fair starts (through levels (levels q)) P m spans q inside (own_through levels q) a in
      let parts = load_parts tasks levels q P inside alone in
      omega arith

  pub all_heavy :
      P < load_through tasks levels (levels q) P → (a : ℕ) → m ≤ a → P < brought (both (above_of tasks starts levels q) (own_of tasks starts levels q)) a P
  all_heavy full a le =
      let e = brought-both a in
      let above = members_exact tasks fair starts (through levels (levels q)) P m spans (higher levels q) (higher-through levels q) a le in
      let own = task_exact tasks fair starts (through levels (levels q)) P m spans q inside (own_through levels q) a le in
      let parts = load_parts tasks levels q P inside alone in
      omega arith

  -- a request that is not done within R ticks has one that falls up to m + 2P, where there is room
  pub undone_early :
      load_through tasks levels (levels q) P ≤ P → (R k : ℕ) → 0 < R → R ≤ t →
      done_by tasks starts levels q (request_of tasks starts q k + R) < k * c →
      (j : ℕ) × (request_of tasks starts q j + R ≤ m + 2 * P) × (done_by tasks starts levels q (request_of tasks starts q j + R) < j * c)
  undone_early room R zero pos le late = let z = zero-mul c in absurd (omega arith)
  undone_early room R (suc k) pos le late =
      go (late_early (after c t R) h m c t (starts q) R (above_of tasks starts levels q)
      (rounds_positive tasks fair starts (through levels (levels q)) P m spans q inside (own_through levels q)) pos le (spans.started q inside (own_through levels q))
      (subst (λ x. Periodic x m (above_of tasks starts levels q)) round (members_periodic tasks fair starts (through levels (levels q)) P m spans (higher levels q) (higher-through levels q)))
      (subst (λ x. Light x (both (above_of tasks starts levels q) (own_of tasks starts levels q))) round (all_light room))
      (suc k) k (omega arith) (undone_behind tasks starts levels q inside alone (omega arith) R k pos late))
    where
      go :
          ((j : ℕ) × (due t (starts q) R (suc j) ≤ m + 2 * (h * t)) × Behind (after c t R) (above_of tasks starts levels q) (own_of tasks starts levels q) (due t (starts q) R (suc j))) →
          (j : ℕ) × (request_of tasks starts q j + R ≤ m + 2 * P) × (done_by tasks starts levels q (request_of tasks starts q j + R) < j * c)
      go (j, early, behind) =
          (suc j, (let e = round in omega arith), behind_undone tasks starts levels q inside alone (omega arith) R j pos behind)

  -- too much load leaves some request undone for any time
  pub overload_undone :
      P < load_through tasks levels (levels q) P → (R : ℕ) → 0 < R →
      (k : ℕ) × Behind (after c t R) (above_of tasks starts levels q) (own_of tasks starts levels q) (due t (starts q) R (suc k))
  overload_undone full R pos =
      let f = fair q inside in
      overload (after c t R) h m c t (starts q) R (above_of tasks starts levels q) (omega arith) (omega arith) (spans.started q inside (own_through levels q))
      (subst (λ x. (a : ℕ) → m ≤ a → x < brought (both (above_of tasks starts levels q) (own_of tasks starts levels q)) a x) round (all_heavy full))

pub decides_law : (tasks : List Figures) → AllFair tasks → Decides tasks
decides_law tasks fair starts levels q P m inside alone spans room k late =
    let f = fair q inside in
    undone_early tasks fair starts levels q P m inside alone spans room (task_at tasks q).deadline k (omega arith) (omega arith) late

pub overloaded_law : (tasks : List Figures) → AllFair tasks → Overloaded tasks
overloaded_law tasks fair starts levels q P m inside alone spans full =
    go (overload_undone tasks fair starts levels q P m inside alone spans full (task_at tasks q).deadline (omega (arith, fair q inside)))
  where
    go :
        ((k : ℕ) × Behind (after (task_at tasks q).work (task_at tasks q).period (task_at tasks q).deadline) (above_of tasks starts levels q) (own_of tasks starts levels q) (due (task_at tasks q).period (starts q) (task_at tasks q).deadline (suc k))) →
        (k : ℕ) × Late tasks starts levels q k
    go (k, behind) =
        let f = fair q inside in
        (suc k, behind_undone tasks starts levels q inside alone (omega arith) (task_at tasks q).deadline k (omega arith) behind)

-- the same tasks above have the same demand, whatever their levels
pub above_same :
    (tasks : List Figures) (starts levels others : ℕ → ℕ) (q : ℕ) →
    ((p : ℕ) → p < length tasks → ltb (levels p) (levels q) ≡ ltb (others p) (others q)) → (τ : ℕ) →
    above_of tasks starts levels q τ ≡ above_of tasks starts others q τ
above_same tasks starts levels others q same τ =
    sum_below_same _ _ (length tasks) (λ p l. ap (λ b. cond b (demanded tasks starts p τ) 0) (same p l))

pub independent_law : (tasks : List Figures) → Independent tasks
independent_law tasks starts levels others q inside alone alone' same τ =
    let d₁ = done_is tasks starts levels q inside alone τ in
    let d₂ = done_is tasks starts others q inside alone' τ in
    let e₁ = same_demand 0 (above_of tasks starts levels q) (above_of tasks starts others q) (above_same tasks starts levels others q same) τ in
    let e₂ =
    same_demand 0 (both (above_of tasks starts levels q) (own_of tasks starts levels q)) (both (above_of tasks starts others q) (own_of tasks starts others q))
    (λ σ. ap (λ x. x + demanded tasks starts q σ) (above_same tasks starts levels others q same σ)) τ
    in
    omega arith

-- what is late, as a plain fact about two backlogs
module _ (tasks : List Figures) (fair : AllFair tasks) (starts levels : ℕ → ℕ) (q : ℕ) (inside : q < length tasks)
    (alone : Alone tasks levels q) where
  pub late_behind :
      (k : ℕ) → Late tasks starts levels q (suc k) →
      Behind 0 (above_of tasks starts levels q) (own_of tasks starts levels q) (due (task_at tasks q).period (starts q) (task_at tasks q).deadline (suc k))
  late_behind k late =
      let f = fair q inside in
      let b = undone_behind tasks starts levels q inside alone (omega arith) (task_at tasks q).deadline k (omega arith) late in
      let z = after_none (task_at tasks q).work (task_at tasks q).period (task_at tasks q).deadline (omega arith) (omega arith) in
      omega arith

  pub behind_late :
      (k : ℕ) →
      Behind 0 (above_of tasks starts levels q) (own_of tasks starts levels q) (due (task_at tasks q).period (starts q) (task_at tasks q).deadline (suc k)) →
      Late tasks starts levels q (suc k)
  behind_late k behind =
      let f = fair q inside in
      let z = after_none (task_at tasks q).work (task_at tasks q).period (task_at tasks q).deadline (omega arith) (omega arith) in
      behind_undone tasks starts levels q inside alone (omega arith) (task_at tasks q).deadline k (omega arith) (omega arith)

pub less_law : (tasks : List Figures) → AllFair tasks → LessIsNeverLater tasks
less_law tasks fair lighter same_length fair' less starts levels fewer q inside same-deadline alone alone' above k late = go k late
  where
    inside' : q < length lighter
    inside' = omega arith

    lone : Alone lighter fewer q
    lone p l e = alone' p (omega arith) e

    own_less : (p : ℕ) → p < length tasks → (τ : ℕ) → demanded lighter starts p τ ≤ demanded tasks starts p τ
    own_less p l τ =
        let w = less_work (task_at tasks p).work (task_at lighter p).work (task_at tasks p).period (starts p) τ (less p l).0 in
        subst (λ x. requested (task_at lighter p).work x (starts p) τ ≤ demanded tasks starts p τ) (sym (less p l).1) w

    above_less : (τ : ℕ) → above_of lighter starts fewer q τ ≤ above_of tasks starts levels q τ
    above_less τ =
        subst (λ n. sum_below (counted (higher fewer q) (λ p. demanded lighter starts p τ)) n ≤ above_of tasks starts levels q τ) (sym same_length)
        (sum_below_mono (counted (higher fewer q) (λ p. demanded lighter starts p τ)) (counted (higher levels q) (λ p. demanded tasks starts p τ)) (length tasks)
        (λ p l. part (higher fewer q p) (higher levels q p) (λ e. lt-ltb (levels p) (levels q) (above p l (ltb-true (fewer p) (fewer q) e))) (own_less p l τ)))
      where
        part : (b c : Bool) {x y : ℕ} → (b ≡ true → c ≡ true) → x ≤ y → cond b x 0 ≤ cond c y 0
        part true c {x} {y} h le = subst (λ z. x ≤ cond z y 0) (sym (h refl)) le
        part false c h le = omega arith

    go : (k : ℕ) → Late lighter starts fewer q k → Late tasks starts levels q k
    go zero late = let z = zero-mul (task_at lighter q).work in absurd (omega arith)
    go (suc k) late =
        let b = late_behind lighter fair' starts fewer q inside' lone k late in
        let at = ap (λ x. starts q + (suc k - 1) * x) (less q inside).1 in
        behind_late tasks fair starts levels q inside alone k
        (subst (λ x. Behind 0 (above_of tasks starts levels q) (own_of tasks starts levels q) x)
        (let e : due (task_at lighter q).period (starts q) (task_at lighter q).deadline (suc k) ≡ due (task_at tasks q).period (starts q) (task_at tasks q).deadline (suc k) = omega arith in e)
        (less_behind 0 (above_of tasks starts levels q) (own_of tasks starts levels q) (above_of lighter starts fewer q) (own_of lighter starts fewer q) above_less (own_less q inside) (due (task_at lighter q).period (starts q) (task_at lighter q).deadline (suc k)) b))

-- so many whole periods cover R ticks
pub rounds_cover : (R t : ℕ) → 0 < t → R ≤ rounds_in R t * t
rounds_cover R t pos =
    let e = div-add-mod' (R + (t - 1)) t in
    let l = mod-lt (R + (t - 1)) pos in
    omega arith

pub worst_starts_law : (tasks : List Figures) → AllFair tasks → WorstStarts tasks
worst_starts_law tasks fair levels q R inside alone work within starts = never
  where
    c : ℕ
    c = (task_at tasks q).work

    t : ℕ
    t = (task_at tasks q).period

    fits : (v : ℕ) → brought (above_of tasks starts levels q) v R + c ≤ R
    fits v =
        let e = joint-brought (higher levels q) (demanded tasks starts) (length tasks) v R in
        let most =
        counted_mono (higher levels q) (λ p. brought (demanded tasks starts p) v R) (λ p. rounds_in R (task_at tasks p).period * (task_at tasks p).work) (length tasks)
        (λ p l i.
        let f = fair p l in
        let pos : 0 < (task_at tasks p).period = omega arith in
        brought_cover (task_at tasks p).work (task_at tasks p).period (starts p) (rounds_in R (task_at tasks p).period) R v pos (rounds_cover R (task_at tasks p).period pos))
        in
        omega arith

    never : (k : ℕ) → Late tasks starts levels q k → ⊥
    never zero late = let z = zero-mul (task_at tasks q).work in omega arith
    never (suc k) late =
        let f = fair q inside in
        let b = late_behind tasks fair starts levels q inside alone k late in
        let e = in_time_lem c t (starts q) R (above_of tasks starts levels q) (omega arith) (omega arith) (omega arith) fits (task_at tasks q).deadline k within (omega arith) in
        omega arith
