-- The requests that fall at a tick are taken: what has become ready, and what is still to come.
use Rattle.std.proofs.Common.{◌≡◌, ℕ, ◌+◌, ◌-◌, ◌*◌, ◌<◌, ◌≤◌, cond, eqb, ◌⊎◌, map, length, get_or, sym, ap, ◌∙◌, inl, inr, add-zero, one-mul, zero-mul, arith}
use Rattle.std.proofs.Math.ListN.{get_or-map}
use Rattle.std.proofs.lemmas.List.{get_or_past, length-map}
use Rattle.std.proofs.lemmas.Bool.Decides.{nat_tests}
use Rattle.std.proofs.lemmas.Bool.{cases_lt, cases_eq, cond-true, cond-false, eq-eqb, ne_eqb}
use Rattle.timeline.specs.Requests.{requested}
use Rattle.timeline.proofs.Streams.{before_start, request_falls, no_request, left_out}
use Rattle.runner.specs.declared.processor.Processor.{Processor}
use Rattle.runner.specs.Levels.{requested_at}
use Rattle.runner.specs.Processor.{levels_of, count_of, level_on, work_on, period_on, next_on, left_on, no_task}
use Rattle.runner.specs.Running.{SameTasks}
use Rattle.runner.specs.Steps.{RequestsTaken}
use Rattle.runner.proofs.Cells.{of_either, either_same}

no_work : (t o τ : ℕ) → requested 0 t o τ ≡ 0
no_work t o τ = grind (arith, nat_tests)

falls_at : (c t o τ : ℕ) → o ≡ τ → requested c t o τ ≡ c
falls_at c t o τ e =
    let z = zero-mul t in
    let at : τ ≡ o + 0 * t = omega arith in
    ap (requested c t o) at ∙ request_falls c t o 0

-- after a request, the requests are those from the next one on
moves_on : (c t o τ : ℕ) → o < τ → requested c t o τ ≡ requested c t (o + t) τ
moves_on c t o τ lt = go (cases_lt τ (o + t))
  where
    next : o + 1 * t ≡ o + t
    next = ap (λ n. o + n) (one-mul t)

    go : (τ < o + t) ⊎ (o + t ≤ τ) → requested c t o τ ≡ requested c t (o + t) τ
    go (inl before) =
        let z = zero-mul t in
        let at : τ ≡ o + (0 * t + (τ - o)) = omega arith in
        ap (requested c t o) at ∙ no_request c t o 0 (τ - o) (omega arith) (omega arith) ∙ sym (before_start c t (o + t) τ before)
    go (inr from) = sym (ap (λ s. requested c t s τ) (sym next) ∙ left_out c t o 1 τ (omega arith))

-- One level at tick τ, whose next request is still to come: what changes where the request falls now.
module _ (c t o τ : ℕ) (awaited : τ ≤ o) where
  level_units : (x : ℕ) → x + requested c t o τ ≡ cond (eqb o τ) (x + c) x
  level_units x = go (cases_eq o τ)
    where
      go : (o ≡ τ) ⊎ (o ≡ τ → ⊥) → x + requested c t o τ ≡ cond (eqb o τ) (x + c) x
      go (inl e) = ap (λ n. x + n) (falls_at c t o τ e) ∙ sym (cond-true (eqb o τ) _ _ (eq-eqb o τ e))
      go (inr ne) =
          ap (λ n. x + n) (before_start c t o τ (omega arith)) ∙ add-zero x ∙ sym (cond-false (eqb o τ) _ _ (ne_eqb o τ ne))

  level_coming : (σ : ℕ) → τ < σ → requested c t o σ ≡ requested c t (cond (eqb o τ) (o + t) o) σ
  level_coming σ later = go (cases_eq o τ)
    where
      go : (o ≡ τ) ⊎ (o ≡ τ → ⊥) → requested c t o σ ≡ requested c t (cond (eqb o τ) (o + t) o) σ
      go (inl e) =
          moves_on c t o σ (omega arith)
          ∙ ap (λ n. requested c t n σ) (sym (cond-true (eqb o τ) _ _ (eq-eqb o τ e)))
      go (inr ne) = ap (λ n. requested c t n σ) (sym (cond-false (eqb o τ) _ _ (ne_eqb o τ ne)))

  level_later : 0 < t → τ < cond (eqb o τ) (o + t) o
  level_later pos = grind (arith, nat_tests)

-- what a level of p demands from its tick on
abbrev pub demand_of : Processor → ℕ → ℕ → ℕ
demand_of p l τ = requested (work_on p l) (period_on p l) (next_on p l) τ

pub empty_demands : (p : Processor) (l : ℕ) → count_of p ≤ l → (τ : ℕ) → demand_of p l τ ≡ 0
empty_demands p l past τ =
    ap (λ level. requested level.work level.period level.next τ) (get_or_past (levels_of p) l no_task past) ∙ no_work 0 0 τ

-- The requests of a tick are taken: p before, q after.
module _ (p q : Processor) (taken : RequestsTaken p q) where
  level_taken : (l : ℕ) → level_on q l ≡ requested_at p.tick (level_on p l)
  level_taken l =
      ap (λ xs. get_or xs l no_task) taken.levels
      ∙ ap (get_or (map (requested_at p.tick) (levels_of p)) l) (sym (either_same (eqb 0 p.tick) no_task))
      ∙ get_or-map (requested_at p.tick) (levels_of p) l no_task

  next_taken : (l : ℕ) → next_on q l ≡ cond (eqb (next_on p l) p.tick) (next_on p l + period_on p l) (next_on p l)
  next_taken l = ap (λ x. x.next) (level_taken l) ∙ of_either (λ x. x.next) (eqb (next_on p l) p.tick) _ _

  left_taken : (l : ℕ) → left_on q l ≡ cond (eqb (next_on p l) p.tick) (left_on p l + work_on p l) (left_on p l)
  left_taken l = ap (λ x. x.left) (level_taken l) ∙ of_either (λ x. x.left) (eqb (next_on p l) p.tick) _ _

  pub tasks_taken : SameTasks p q
  tasks_taken =
      record {
        count = ap length taken.levels ∙ length-map (levels_of p) (requested_at p.tick);
        work = λ l.
            ap (λ x. x.work) (level_taken l) ∙ of_either (λ x. x.work) (eqb (next_on p l) p.tick) _ _
            ∙ either_same (eqb (next_on p l) p.tick) _;
        period = λ l.
            ap (λ x. x.period) (level_taken l) ∙ of_either (λ x. x.period) (eqb (next_on p l) p.tick) _ _
            ∙ either_same (eqb (next_on p l) p.tick) _;
      }

  -- the units of the tick are among those left
  pub taken_units : (l : ℕ) → left_on p l + demand_of p l p.tick ≡ left_on q l
  taken_units l = go (cases_lt l (count_of p))
    where
      go : (l < count_of p) ⊎ (count_of p ≤ l) → left_on p l + demand_of p l p.tick ≡ left_on q l
      go (inl in_use) = level_units _ _ _ _ (p.kept l no_task in_use).1.0 _ ∙ sym (left_taken l)
      go (inr past) =
          let same = left_taken l in
          let none = empty_demands p l past p.tick in
          let idle = ap (λ x. x.work) (get_or_past (levels_of p) l no_task past) in
          grind (arith, nat_tests)

  -- the units of later ticks are those that q awaits
  pub taken_coming : (l σ : ℕ) → p.tick < σ → demand_of p l σ ≡ demand_of q l σ
  taken_coming l σ later = go (cases_lt l (count_of p))
    where
      figures : requested (work_on p l) (period_on p l) (next_on q l) σ ≡ demand_of q l σ
      figures = let w = tasks_taken.work l in let t = tasks_taken.period l in simp (w, t)

      go : (l < count_of p) ⊎ (count_of p ≤ l) → demand_of p l σ ≡ demand_of q l σ
      go (inl in_use) =
          level_coming _ _ _ _ (p.kept l no_task in_use).1.0 σ later
          ∙ ap (λ o. requested (work_on p l) (period_on p l) o σ) (sym (next_taken l)) ∙ figures
      go (inr past) =
          empty_demands p l past σ ∙ sym (empty_demands q l (omega (arith, tasks_taken.count)) σ)

  pub taken_later : (l : ℕ) → l < count_of p → p.tick < next_on q l
  taken_later l in_use =
      let kept = p.kept l no_task in_use in
      let e = next_taken l in
      omega (arith, level_later (work_on p l) (period_on p l) _ _ kept.1.0 (omega arith))
