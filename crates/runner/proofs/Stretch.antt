-- A stretch of ticks in which no units become ready: one level runs all of them, or none does.
use Rattle.std.proofs.Common.{◌≡◌, ℕ, zero, suc, ◌+◌, ◌-◌, ◌<◌, ◌≤◌, cond, eqb, ◌⊎◌, Some, None, Option, refl, ap, ◌∙◌, subst, inl, inr, add-zero, add-suc, arith}
use Rattle.std.proofs.lemmas.Bool.Decides.{nat_tests}
use Rattle.std.proofs.lemmas.Bool.{cases_order}
use Rattle.timeline.specs.Processor.{Demands, sum_below, served, owing, ready}
use Rattle.timeline.proofs.Backlog.{sum_below_same, sum_below_none, part_le}
use Rattle.runner.specs.Running.{RunsAt}

sum_zero : (units : ℕ → ℕ) (i : ℕ) → ((l : ℕ) → l < i → units l ≡ 0) → sum_below units i ≡ 0
sum_zero units i none = sum_below_same units (λ l. 0) i none ∙ sum_below_none i

served_same : (v u : ℕ → ℕ) → ((l : ℕ) → v l ≡ u l) → (l : ℕ) → served v l ≡ served u l
served_same v u same l =
    let above = sum_below_same v u l (λ k h. same k) in let here = same l in simp (above, here)

-- the units left where the chosen level has run n of its own
abbrev pub spent : Option ℕ → ℕ → (ℕ → ℕ) → ℕ → ℕ
spent (Some w) n units l = cond (eqb l w) (units l - n) (units l)
spent None n units l = units l

-- the chosen level has n units and those above it none; where none is chosen, no level has any
abbrev pub CanRun : Option ℕ → ℕ → (ℕ → ℕ) → Type 0
CanRun (Some w) n units = ((l : ℕ) → l < w → units l ≡ 0) × (n ≤ units w)
CanRun None n units = (l : ℕ) → units l ≡ 0

spent_none : (chosen : Option ℕ) (units : ℕ → ℕ) (l : ℕ) → units l ≡ spent chosen 0 units l
spent_none (Some w) units l = grind (arith, nat_tests)
spent_none None units l = refl

pub spent_same :
    (chosen : Option ℕ) (n : ℕ) (v u : ℕ → ℕ) → ((l : ℕ) → v l ≡ u l) → (l : ℕ) → spent chosen n v l ≡ spent chosen n u l
spent_same (Some w) n v u same l = ap (λ x. cond (eqb l w) (x - n) x) (same l)
spent_same None n v u same l = same l

pub can_same :
    (chosen : Option ℕ) (n : ℕ) (v u : ℕ → ℕ) → ((l : ℕ) → v l ≡ u l) → CanRun chosen n u → CanRun chosen n v
can_same (Some w) n v u same (first, some) = (λ l h. same l ∙ first l h, omega (arith, same w))
can_same None n v u same none = λ l. same l ∙ none l

none_above :
    (w n : ℕ) (units : ℕ → ℕ) → CanRun (Some w) n units → (j l : ℕ) → l ≤ w → sum_below (spent (Some w) j units) l ≡ 0
none_above w n units can j l le =
    sum_zero (spent (Some w) j units) l (λ k h. let z = can.0 k (omega arith) in grind (arith, nat_tests))

served-spent :
    (chosen : Option ℕ) (n : ℕ) (units : ℕ → ℕ) → CanRun chosen n units → (j : ℕ) → j < n → (l : ℕ) →
    served (spent chosen j units) l ≡ spent chosen (suc j) units l
served-spent (Some w) n units can j lt l = go (cases_order l w)
  where
    go : (l ≡ w) ⊎ ((l < w) ⊎ (w < l)) → served (spent (Some w) j units) l ≡ spent (Some w) (suc j) units l
    go (inl e) = let z = none_above w n units can j l (omega arith) in grind (arith, nat_tests)
    go (inr (inl above)) = let z = can.0 l above in grind (arith, nat_tests)
    go (inr (inr below)) =
        let part = part_le (spent (Some w) j units) w l below in
        let own : 0 < spent (Some w) j units w = let some = can.1 in grind (arith, nat_tests) in
        grind (arith, nat_tests)
served-spent None n units none j lt l = let z = none l in grind (arith, nat_tests)

-- who runs, where the units of a tick are known
runs_where :
    (D : Demands) (τ n j : ℕ) (chosen : Option ℕ) (units : ℕ → ℕ) → CanRun chosen n units → j < n →
    ((l : ℕ) → ready D τ l ≡ spent chosen j units l) → RunsAt D chosen τ
runs_where D τ n j (Some w) units can lt here =
    let same = sum_below_same (ready D τ) (spent (Some w) j units) w (λ l h. here l) in
    let above = none_above w n units can j w (omega arith) in
    let own = here w in
    let some = can.1 in
    grind (arith, nat_tests)
runs_where D τ n j None units none lt here = λ l. here l ∙ none l

-- no units become ready after tick τ and before n ticks are over
module _
    (D : Demands) (τ n : ℕ) (chosen : Option ℕ) (quiet : (l σ : ℕ) → τ < σ → σ < τ + n → D l σ ≡ 0)
    (can : CanRun chosen n (ready D τ)) where
  step :
      (j : ℕ) → j < n → ((l : ℕ) → ready D (τ + j) l ≡ spent chosen j (ready D τ) l) → (l : ℕ) →
      owing D (τ + suc j) l ≡ spent chosen (suc j) (ready D τ) l
  step j lt here l =
      ap (λ σ. owing D σ l) (add-suc τ j)
      ∙ served_same (ready D (τ + j)) (spent chosen j (ready D τ)) here l
      ∙ served-spent chosen n (ready D τ) can j lt l

  ready_at : (j : ℕ) → j < n → (l : ℕ) → ready D (τ + j) l ≡ spent chosen j (ready D τ) l
  ready_at zero lt l = ap (λ σ. ready D σ l) (add-zero τ) ∙ spent_none chosen (ready D τ) l
  ready_at (suc j) lt l =
      let before = step j (omega arith) (ready_at j (omega arith)) l in
      let now = quiet l (τ + suc j) (omega arith) (omega arith) in
      omega arith

  pub owing_after : 0 < n → (l : ℕ) → owing D (τ + n) l ≡ spent chosen n (ready D τ) l
  owing_after pos l =
      let last : suc (n - 1) ≡ n = omega arith in
      subst (λ k. owing D (τ + k) l ≡ spent chosen k (ready D τ) l) last
      (step (n - 1) (omega arith) (ready_at (n - 1) (omega arith)) l)

  pub runs_in : (σ : ℕ) → τ ≤ σ → σ < τ + n → RunsAt D chosen σ
  runs_in σ from to =
      let at : τ + (σ - τ) ≡ σ = omega arith in
      subst (RunsAt D chosen) at
      (runs_where D (τ + (σ - τ)) n (σ - τ) chosen (ready D τ) can (omega arith) (ready_at (σ - τ) (omega arith)))
