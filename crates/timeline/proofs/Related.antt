-- Related starts: the same requests stay undone, so a task is late with both or with neither, and responds alike.
use Rattle.std.proofs.Common.{◌≡◌, ℕ, zero, suc, ◌+◌, ◌-◌, ◌*◌, ◌<◌, ◌≤◌, Bool, true, false, cond, ◌⊎◌, List, length, get_or, sym, refl, ap, ◌∙◌, subst, inl, inr, add-zero, add-suc, one-mul, zero-mul, arith}
use Rattle.std.proofs.lemmas.List.{length-map, get_or-map}
use Rattle.std.proofs.lemmas.Bool.{cases_lt}
use Rattle.periods.specs.Divisors.{Divides}
use Rattle.periods.specs.Multiples.{common_period, Proper}
use Rattle.periods.specs.Listed.{Related}
use Rattle.periods.proofs.Common.{multiple_common, multiple_pos}
use Rattle.periods.proofs.Starts.{related_sym}
use Rattle.tasks.specs.declared.figures.Figures.{Figures}
use Rattle.tasks.specs.Loads.{periods_in}
use Rattle.timeline.specs.Processor.{sum_below}
use Rattle.timeline.specs.Requests.{requested}
use Rattle.timeline.specs.Timeline.{task_at, demanded, request_of, done_by, Finished, Finish, WorstResponse}
use Rattle.timeline.specs.Laws.{AllFair, Spans, through, load_through, Alone, StartsRelate}
use Rattle.timeline.proofs.Backlog.{both, below_both, part_le, sum_below_same, sum_below_none}
use Rattle.timeline.proofs.Repeats.{Light, Periodic}
use Rattle.timeline.proofs.Members.{counted, counted_mono, counted_same}
use Rattle.timeline.proofs.Streams.{before_start, shifted, left_out, left_out_less, up_to_start}
use Rattle.timeline.proofs.Lateness.{due, Behind}
use Rattle.timeline.proofs.Moves.{same_behind, shift_late, unshift_late, put_back, leave_out}
use Rattle.timeline.proofs.Levels.{higher, above_of, own_of, done_is, after, undone_behind, behind_undone}
use Rattle.timeline.proofs.Loads.{rounds, whole_rounds, rounds_positive, members_periodic, members_most, own_through, higher-through, load_parts}
use Rattle.timeline.proofs.Laws.{all_light, overload_undone}

-- all starts later by one number, and each by some of its periods
abbrev pub later : ℕ → (ℕ → ℕ) → ℕ → ℕ
later a starts q = a + starts q

abbrev pub skipping : List Figures → (ℕ → ℕ) → (ℕ → ℕ) → ℕ → ℕ
skipping tasks times starts q = starts q + times q * (task_at tasks q).period

module _ (tasks : List Figures) (fair : AllFair tasks) (levels : ℕ → ℕ) (q R : ℕ) (inside : q < length tasks)
    (alone : Alone tasks levels q) (Rpos : 0 < R) where
  -- request k + 1 is not done within R ticks, by the backlogs
  abbrev Undone : (ℕ → ℕ) → ℕ → Type 0
  Undone starts k =
      Behind (after (task_at tasks q).work (task_at tasks q).period R) (above_of tasks starts levels q) (own_of tasks starts levels q)
      (due (task_at tasks q).period (starts q) R (suc k))

  abbrev Somewhere : (ℕ → ℕ) → Type 0
  Somewhere starts = (k : ℕ) × Undone starts k

  later_none : (a : ℕ) (starts : ℕ → ℕ) (τ : ℕ) → τ < a → above_of tasks (later a starts) levels q τ ≡ 0
  later_none a starts τ l =
      counted_same (higher levels q) (λ p. demanded tasks (later a starts) p τ) (λ p. 0) (length tasks)
      (λ p i e. before_start (task_at tasks p).work (task_at tasks p).period (a + starts p) τ (omega arith))
      ∙ sum_below_same (counted (higher levels q) (λ p. 0)) (λ p. 0) (length tasks) (λ p i. none (higher levels q p)) ∙ sum_below_none (length tasks)
    where
      none : (b : Bool) → ◌≡◌ {A = ℕ} (cond b 0 0) 0
      none true = refl
      none false = refl

  later_same : (a : ℕ) (starts : ℕ → ℕ) (τ : ℕ) → above_of tasks (later a starts) levels q (a + τ) ≡ above_of tasks starts levels q τ
  later_same a starts τ =
      counted_same (higher levels q) (λ p. demanded tasks (later a starts) p (a + τ)) (λ p. demanded tasks starts p τ) (length tasks)
      (λ p i e. shifted (task_at tasks p).work (task_at tasks p).period (starts p) a τ)

  to_later : (a : ℕ) (starts : ℕ → ℕ) → Somewhere starts → Somewhere (later a starts)
  to_later a starts (k, b) = (
    k,
    shift_late (after (task_at tasks q).work (task_at tasks q).period R) (task_at tasks q).work (task_at tasks q).period (starts q) R a
        (above_of tasks starts levels q) (above_of tasks (later a starts) levels q) (later_none a starts) (later_same a starts) (suc k) b,
  )

  from_later : (a : ℕ) (starts : ℕ → ℕ) → Somewhere (later a starts) → Somewhere starts
  from_later a starts (k, b) = (
    k,
    unshift_late (after (task_at tasks q).work (task_at tasks q).period R) (task_at tasks q).work (task_at tasks q).period (starts q) R a
        (above_of tasks starts levels q) (above_of tasks (later a starts) levels q) (later_none a starts) (later_same a starts) (suc k) b,
  )

  skip_less : (times starts : ℕ → ℕ) (τ : ℕ) → above_of tasks (skipping tasks times starts) levels q τ ≤ above_of tasks starts levels q τ
  skip_less times starts τ =
      counted_mono (higher levels q) (λ p. demanded tasks (skipping tasks times starts) p τ) (λ p. demanded tasks starts p τ) (length tasks)
      (λ p i e. left_out_less (task_at tasks p).work (task_at tasks p).period (starts p) (times p) τ)

  from_skipping : (times starts : ℕ → ℕ) → Somewhere (skipping tasks times starts) → Somewhere starts
  from_skipping times starts (k, b) = (
    k + times q,
    put_back (after (task_at tasks q).work (task_at tasks q).period R) (task_at tasks q).work (task_at tasks q).period (starts q) R (times q)
        (above_of tasks starts levels q) (above_of tasks (skipping tasks times starts) levels q) (skip_less times starts) k b,
  )

  period_at : (p : ℕ) → p < length tasks → get_or (periods_in tasks) p 0 ≡ (task_at tasks p).period
  period_at p l = get_or-map (λ f. f.period) tasks p (record { work = 0; period = 0; deadline = 0 }) 0 l

  -- a span for starts that are not above others
  span : (starts most : ℕ → ℕ) → ((p : ℕ) → p < length tasks → starts p ≤ most p) →
      Spans tasks starts (through levels (levels q)) (common_period (periods_in tasks)) (sum_below most (length tasks))
  span starts most le =
      record {
        positive = multiple_pos 1 (periods_in tasks) (omega arith) proper;
        common = λ p l i. subst (λ x. Divides x (common_period (periods_in tasks))) (period_at p l)
            (multiple_common 1 (periods_in tasks) p (let e = length-map tasks (λ f. f.period) in omega arith));
        started = λ p l i. let x = le p l in let y = part_le most p (length tasks) l in omega arith;
      }
    where
      proper : Proper (periods_in tasks)
      proper p l =
          let n = length-map tasks (λ f. f.period) in
          let e = period_at p (omega arith) in
          let f = fair p (omega arith) in
          (omega arith, omega arith)

  to_skipping : (times starts : ℕ → ℕ) → Somewhere starts → Somewhere (skipping tasks times starts)
  to_skipping times starts (k, b) = go (cases_lt (common_period (periods_in tasks)) (load_through tasks levels (levels q) (common_period (periods_in tasks))))
    where
      P : ℕ
      P = common_period (periods_in tasks)

      m : ℕ
      m = sum_below (skipping tasks times starts) (length tasks)

      spans : Spans tasks starts (through levels (levels q)) (common_period (periods_in tasks)) (sum_below (skipping tasks times starts) (length tasks))
      spans = span starts (skipping tasks times starts) (λ p l. omega arith)

      spans' : Spans tasks (skipping tasks times starts) (through levels (levels q)) (common_period (periods_in tasks)) (sum_below (skipping tasks times starts) (length tasks))
      spans' = span (skipping tasks times starts) (skipping tasks times starts) (λ p l. omega arith)

      round : P ≡ rounds tasks P q * (task_at tasks q).period
      round = whole_rounds tasks fair starts (through levels (levels q)) P m spans q inside (own_through levels q)

      go : (P < load_through tasks levels (levels q) P) ⊎ (load_through tasks levels (levels q) P ≤ P) → Somewhere (skipping tasks times starts)
      go (inl full) = overload_undone tasks fair (skipping tasks times starts) levels q P m inside alone spans' full R Rpos
      go (inr room) =
          let f = fair q inside in
          let light = all_light tasks fair starts levels q P m inside alone spans room in
          leave_out (after (task_at tasks q).work (task_at tasks q).period R) (rounds tasks P q) m (task_at tasks q).work (task_at tasks q).period (starts q) R (times q)
          (above_of tasks starts levels q) (above_of tasks (skipping tasks times starts) levels q)
          (rounds_positive tasks fair starts (through levels (levels q)) P m spans q inside (own_through levels q)) (omega arith) (spans'.started q inside (own_through levels q))
          (subst (λ x. Periodic x m (above_of tasks starts levels q)) round (members_periodic tasks fair starts (through levels (levels q)) P m spans (higher levels q) (higher-through levels q)))
          (subst (λ x. Light x (both (above_of tasks starts levels q) (own_of tasks starts levels q))) round light)
          (subst (λ x. Light x (above_of tasks starts levels q)) round above_light) (skip_less times starts) agree k b
        where
          above_light : Light P (above_of tasks starts levels q)
          above_light a =
              let most = members_most tasks fair starts (through levels (levels q)) P m spans (higher levels q) (higher-through levels q) a in
              let parts = load_parts tasks levels q P inside alone in
              omega arith

          agree : (τ : ℕ) → m ≤ τ → above_of tasks (skipping tasks times starts) levels q τ ≡ above_of tasks starts levels q τ
          agree τ far =
              counted_same (higher levels q) (λ p. demanded tasks (skipping tasks times starts) p τ) (λ p. demanded tasks starts p τ) (length tasks)
              (λ p l e. left_out (task_at tasks p).work (task_at tasks p).period (starts p) (times p) τ (let s = spans'.started p l (higher-through levels q p e) in omega arith))

  -- starts that are equal at each place
  to_same : (starts others : ℕ → ℕ) → ((p : ℕ) → p < length tasks → starts p ≡ others p) → Somewhere starts → Somewhere others
  to_same starts others same (k, b) = (
    k,
    subst (λ x. Behind (after (task_at tasks q).work (task_at tasks q).period R) (above_of tasks others levels q) (own_of tasks others levels q) x)
        (ap (λ s. due (task_at tasks q).period s R (suc k)) (same q inside))
        (same_behind (after (task_at tasks q).work (task_at tasks q).period R) (above_of tasks starts levels q) (own_of tasks starts levels q) (above_of tasks others levels q) (own_of tasks others levels q)
        (λ τ. counted_same (higher levels q) (λ p. demanded tasks starts p τ) (λ p. demanded tasks others p τ) (length tasks) (λ p l e. at p l τ))
        (λ τ. at q inside τ) (due (task_at tasks q).period (starts q) R (suc k)) b),
  )
    where
      at : (p : ℕ) → p < length tasks → (τ : ℕ) → demanded tasks starts p τ ≡ demanded tasks others p τ
      at p l τ = ap (λ s. requested (task_at tasks p).work (task_at tasks p).period s τ) (same p l)

  moves : (starts others : ℕ → ℕ) → Related (periods_in tasks) starts others → Somewhere starts → Somewhere others
  moves starts others rel s =
      from_later rel.behind others
      (from_skipping rel.fewer (later rel.behind others)
      (to_same (skipping tasks rel.more (later rel.ahead starts)) (skipping tasks rel.fewer (later rel.behind others)) meet
      (to_skipping rel.more (later rel.ahead starts) (to_later rel.ahead starts s))))
    where
      meet : (p : ℕ) → p < length tasks → skipping tasks rel.more (later rel.ahead starts) p ≡ skipping tasks rel.fewer (later rel.behind others) p
      meet p l =
          let e = rel.same p (let n = length-map tasks (λ f. f.period) in omega arith) in
          let a = ap (λ x. rel.more p * x) (period_at p l) in
          let b = ap (λ x. rel.fewer p * x) (period_at p l) in
          omega arith

-- From backlogs back to requests.
module _ (tasks : List Figures) (fair : AllFair tasks) (levels : ℕ → ℕ) (q : ℕ) (inside : q < length tasks) (alone : Alone tasks levels q) where
  abbrev c : ℕ
  c = (task_at tasks q).work

  -- request k is not done R ticks after it falls
  abbrev NotDone : (ℕ → ℕ) → ℕ → ℕ → Type 0
  NotDone starts R k = done_by tasks starts levels q (request_of tasks starts q k + R) < k * c

  -- no request is done when it falls
  never_at_once : (starts : ℕ → ℕ) → NotDone starts 0 1
  never_at_once starts =
      let τ = request_of tasks starts q 1 + 0 in
      let f = fair q inside in
      let z = zero-mul (task_at tasks q).period in
      let o = one-mul c in
      let d = done_is tasks starts levels q inside alone τ in
      let s = up_to_start c (task_at tasks q).period (starts q) τ (omega arith) in
      let b = below_both (above_of tasks starts levels q) (own_of tasks starts levels q) τ in
      omega arith

  not_done_moves : (starts others : ℕ → ℕ) → Related (periods_in tasks) starts others → (R k : ℕ) → NotDone starts R k → (j : ℕ) × NotDone others R j
  not_done_moves starts others rel zero k late = (1, never_at_once others)
  not_done_moves starts others rel (suc R) zero late = let z = zero-mul c in absurd (omega arith)
  not_done_moves starts others rel (suc R) (suc k) late =
      go (moves tasks fair levels q (suc R) inside alone (omega arith) starts others rel
      (k, undone_behind tasks starts levels q inside alone (omega (arith, fair q inside)) (suc R) k (omega arith) late))
    where
      go : Somewhere tasks fair levels q (suc R) inside alone (omega arith) others → (j : ℕ) × NotDone others (suc R) j
      go (j, b) = (suc j, behind_undone tasks others levels q inside alone (omega (arith, fair q inside)) (suc R) j (omega arith) b)

  done_rises : (starts : ℕ → ℕ) (a n : ℕ) → done_by tasks starts levels q a ≤ done_by tasks starts levels q (a + n)
  done_rises starts a zero = let e = ap (done_by tasks starts levels q) (add-zero a) in omega arith
  done_rises starts a (suc n) =
      let e = ap (done_by tasks starts levels q) (add-suc a n) in let ih = done_rises starts a n in omega arith

  done_later : (starts : ℕ → ℕ) (a b : ℕ) → a ≤ b → done_by tasks starts levels q a ≤ done_by tasks starts levels q b
  done_later starts a b le =
      let e : a + (b - a) ≡ b = omega arith in
      let r = done_rises starts a (b - a) in
      let s = ap (done_by tasks starts levels q) e in
      omega arith

  -- what is finished by a tick has a finish
  pub has_finish : (starts : ℕ → ℕ) (k n : ℕ) → Finished tasks starts levels q k n → (tick : ℕ) × Finish tasks starts levels q k tick × (tick ≤ n)
  has_finish starts k zero fin = (0, record { finished = fin; first = λ e h. omega arith }, omega arith)
  has_finish starts k (suc n) fin = go (cases_lt (done_by tasks starts levels q n) (k * c)) (has_finish starts k n)
    where
      go :
          (done_by tasks starts levels q n < k * c) ⊎ (k * c ≤ done_by tasks starts levels q n) →
          (Finished tasks starts levels q k n → (tick : ℕ) × Finish tasks starts levels q k tick × (tick ≤ n)) →
          (tick : ℕ) × Finish tasks starts levels q k tick × (tick ≤ suc n)
      go (inl undone) _ = (
        suc n,
        record { finished = fin; first = λ e h. earlier e h (cases_lt e (suc n)) },
        omega arith,
      )
        where
          earlier : (e : ℕ) → Finished tasks starts levels q k e → (e < suc n) ⊎ (suc n ≤ e) → suc n ≤ e
          earlier e h (inl l) = let r = done_later starts e n (omega arith) in absurd (omega arith)
          earlier e h (inr l) = l
      go (inr done') ih = later' (ih done')
        where
          later' : ((tick : ℕ) × Finish tasks starts levels q k tick × (tick ≤ n)) → (tick : ℕ) × Finish tasks starts levels q k tick × (tick ≤ suc n)
          later' (tick, f, le) = (tick, f, omega arith)

  response_moves :
      (starts others : ℕ → ℕ) → Related (periods_in tasks) starts others → (R : ℕ) → WorstResponse tasks starts levels q R → WorstResponse tasks others levels q R
  response_moves starts others rel R worst = record { within = within'; reached = at worst.reached }
    where
      in_time' : (j : ℕ) → NotDone starts R j → ⊥
      in_time' zero late = let z = zero-mul c in omega arith
      in_time' (suc j) late = go (worst.within (suc j) (omega arith))
        where
          go : ((tick : ℕ) × Finish tasks starts levels q (suc j) tick × (tick ≤ request_of tasks starts q (suc j) + R)) → ⊥
          go (tick, f, le) =
              let r = done_later starts tick (request_of tasks starts q (suc j) + R) le in let g = f.finished in omega arith

      within' : (k : ℕ) → 1 ≤ k → (tick : ℕ) × Finish tasks others levels q k tick × (tick ≤ request_of tasks others q k + R)
      within' k pos = go (cases_lt (done_by tasks others levels q (request_of tasks others q k + R)) (k * c))
        where
          go :
              NotDone others R k ⊎ (k * c ≤ done_by tasks others levels q (request_of tasks others q k + R)) →
              (tick : ℕ) × Finish tasks others levels q k tick × (tick ≤ request_of tasks others q k + R)
          go (inl late) = absurd (back (not_done_moves others starts (related_sym (periods_in tasks) starts others rel) R k late))
            where
              back : ((j : ℕ) × NotDone starts R j) → ⊥
              back (j, l) = in_time' j l
          go (inr fin) = has_finish others k (request_of tasks others q k + R) fin

      at : ((k : ℕ) × (1 ≤ k) × Finish tasks starts levels q k (request_of tasks starts q k + R)) → (k : ℕ) × (1 ≤ k) × Finish tasks others levels q k (request_of tasks others q k + R)
      at (k, pos, f) = go R refl
        where
          undone : (S : ℕ) → R ≡ suc S → NotDone starts S k
          undone S e = elim (cases_lt (done_by tasks starts levels q (request_of tasks starts q k + S)) (k * c)) [ inl l ↦ l | inr l ↦ absurd (let x = f.first (request_of tasks starts q k + S) l in omega arith) ]

          exact : (S : ℕ) → R ≡ suc S → ((j : ℕ) × NotDone others S j) → (k : ℕ) × (1 ≤ k) × Finish tasks others levels q k (request_of tasks others q k + R)
          exact S e (zero, late) = let z = zero-mul c in absurd (omega arith)
          exact S e (suc j, late) = here (within' (suc j) (omega arith))
            where
              here : ((tick : ℕ) × Finish tasks others levels q (suc j) tick × (tick ≤ request_of tasks others q (suc j) + R)) → (k : ℕ) × (1 ≤ k) × Finish tasks others levels q k (request_of tasks others q k + R)
              here (tick, g, le) =
                  let tight : tick ≡ request_of tasks others q (suc j) + R =
                  elim (cases_lt (request_of tasks others q (suc j) + S) tick) [
                    | inl l ↦ omega arith
                    | inr l ↦ absurd (let r = done_later others tick (request_of tasks others q (suc j) + S) l in let w = g.finished in omega arith)
                  ]
                  in
                  (suc j, omega arith, subst (λ x. Finish tasks others levels q (suc j) x) tight g)

          go : (S : ℕ) → R ≡ S → (k : ℕ) × (1 ≤ k) × Finish tasks others levels q k (request_of tasks others q k + R)
          go zero e = absurd (in_time' 1 (subst (λ x. NotDone starts x 1) (sym e) (never_at_once starts)))
          go (suc S) e = exact S e (not_done_moves starts others rel S k (undone S e))

pub starts_relate_law : (tasks : List Figures) → AllFair tasks → StartsRelate tasks
starts_relate_law tasks fair =
    record {
      late = λ starts others levels q inside alone rel k late.
          not_done_moves tasks fair levels q inside alone starts others rel (task_at tasks q).deadline k late;
      response = λ starts others levels q R inside alone rel worst. response_moves tasks fair levels q inside alone starts others rel R worst;
    }
