-- Periods and load of rows, gathered row by row.
use Rattle.std.proofs.Common.{◌≡◌, ℕ, ◌*◌, ◌/◌, ◌≤◌, List, map, length, None, Ok, refl, le_trans, mul-le-mul_right, arith}
use native.Mathlib.Nat.{mul-div-le}
use Rattle.std.specs.List.{AllByRecursion as All, sum_by}
use Rattle.std.proofs.ByRecursion.{All-weaker, sum_by_le}
use Rattle.std.proofs.lemmas.List.Recursion.{is_sum_by}
use Rattle.std.proofs.lemmas.Bool.Decides.{nat_tests}
use Rattle.refusals.specs.Answers.{answer}
use Rattle.periods.specs.Multiples.{longest_common_period, common_period, period_refusal}
use Rattle.tasks.specs.declared.figures.Figures.{Figures}
use Rattle.tasks.specs.Figures.{Fair}
use Rattle.tasks.specs.Loads.{load_in}

-- work within the period fills no more than the ticks
pub work_fits : (f : Figures) (ticks : ℕ) → Fair f → f.work * (ticks / f.period) ≤ ticks
work_fits f ticks fair =
    le_trans (mul-le-mul_right (ticks / f.period) (omega (arith, fair))) (mul-div-le ticks f.period)

-- the load as a sum over rows, each of which adds no more than the ticks
module _ {X : Type 0} (figures : X → Figures) (ticks : ℕ) where
  abbrev pub work_of : X → ℕ
  work_of row = (figures row).work * (ticks / (figures row).period)

  pub load_is_sum : (rows : List X) → load_in ticks (map figures rows) ≡ sum_by work_of rows
  load_is_sum = is_sum_by (λ rows. load_in ticks (map figures rows)) work_of refl (λ _ _. refl)

  pub load_bound :
      (rows : List X) → ticks ≤ longest_common_period → All (λ row. Fair (figures row)) rows →
      sum_by work_of rows ≤ length rows * longest_common_period
  load_bound rows short fair =
      sum_by_le work_of longest_common_period rows
      (All-weaker _ (λ row. work_of row ≤ longest_common_period) (λ row is. le_trans (work_fits (figures row) ticks is) short) rows fair)

-- a common period is answered only within the limit
pub answered :
    (ts : List ℕ) (common : ℕ) → Ok common ≡ answer (period_refusal ts) (common_period ts) →
    (period_refusal ts ≡ None) × (common ≡ common_period ts) × (common ≤ longest_common_period)
answered ts common is = (grind (arith, nat_tests), grind (arith, nat_tests), grind (arith, nat_tests))
