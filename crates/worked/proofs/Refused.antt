-- Why a table is refused, and that the planner answers nothing else.
use Rattle.std.proofs.Common.{◌≡◌, ℕ, ◌<◌, ◌≤◌, List, None, Ok, Err, Result, refl, ap, inl, inr, arith}
use Rattle.refusals.specs.declared.Refusal.{Refusal}
use Rattle.refusals.specs.declared.Refusal.TheVariants.{Overload, NoPlan as NoPlanRefusal}
use Rattle.periods.specs.Multiples.{common_period}
use Rattle.periods.specs.Listed.{choices_refusal}
use Rattle.tasks.specs.declared.figures.Figures.{Figures}
use Rattle.tasks.specs.Loads.{load, periods_in}
use Rattle.judges.specs.Meaning.{Meaning}
use Rattle.planner.specs.declared.plan.Plan.{Plan}
use Rattle.planner.specs.Plans.{NoPlan, Unplanned, Answered, start_at, level_at}
use Rattle.worked.specs.Tables.{Refused}

module _ (M : Meaning) (tasks : List Figures) (listed : choices_refusal (periods_in tasks) ≡ None) where
  pub overloads : common_period (periods_in tasks) < load tasks → Refused M tasks Overload
  overloads over = record { unplanned = inr (inl (listed, over, refl)); only = only }
    where
      why : (refusal : Refusal) → Unplanned M tasks refusal → refusal ≡ Overload
      why refusal (inl other) = absurd (let z : ◌≡◌ {A = ℕ} 0 1 = cc in omega arith)
      why refusal (inr (inl (l, more, is))) = is
      why refusal (inr (inr (l, room, none, is))) = absurd (omega arith)

      only : (answer : Result Plan Refusal) → Answered M tasks answer → answer ≡ Err Overload
      only (Ok plan) (l, room, planned) = absurd (omega arith)
      only (Err refusal) unplanned = ap Err (why refusal unplanned)

  pub plans_nothing : load tasks ≤ common_period (periods_in tasks) → NoPlan M tasks → Refused M tasks NoPlanRefusal
  plans_nothing room none = record { unplanned = inr (inr (listed, room, none, refl)); only = only }
    where
      why : (refusal : Refusal) → Unplanned M tasks refusal → refusal ≡ NoPlanRefusal
      why refusal (inl other) = absurd (let z : ◌≡◌ {A = ℕ} 0 1 = cc in omega arith)
      why refusal (inr (inl (l, more, is))) = absurd (omega arith)
      why refusal (inr (inr (l, fits, never, is))) = is

      only : (answer : Result Plan Refusal) → Answered M tasks answer → answer ≡ Err NoPlanRefusal
      only (Ok plan) (l, fits, planned) = absurd (none (start_at plan) (level_at plan) planned.levels planned.passes)
      only (Err refusal) unplanned = ap Err (why refusal unplanned)
