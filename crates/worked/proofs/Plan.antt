-- The worked plan, computed.
use Rattle.std.proofs.Common.{◌≡◌, ℕ, zero, suc, ◌<◌, true, length, None, refl, arith}
use Rattle.periods.specs.Divisors.{gcd, euclid}
use Rattle.periods.specs.Multiples.{lcm}
use Rattle.tasks.specs.Figures.{first_fault}
use Rattle.timeline.specs.Timeline.{NeverLate}
use Rattle.sheets.specs.Checks.{rows_fault}
use Rattle.charts.specs.Plans.{tasks_of, start_of, level_of}
use Rattle.charts.specs.Charts.{shown}
use Rattle.worked.specs.Plan.{planned_rows, planned_bars, Responds, WorkedPlan}
use Rattle.worked.proofs.Responses.{is_worst, never_late, worst_response}
use Rattle.worked.proofs.Charted.{shown_at, shown_is, is_chart}

-- All comes round after 24 ticks, and none starts after 10, so the first n requests decide.
module _ (place response n longest : ℕ) (test : is_worst (tasks_of planned_rows) (start_of planned_rows) (level_of planned_rows) place 24 10 response n longest ≡ true) where
  in_time : NeverLate (tasks_of planned_rows) (start_of planned_rows) (level_of planned_rows) place
  in_time = never_late (tasks_of planned_rows) (start_of planned_rows) (level_of planned_rows) place 24 10 response n longest test

  responds : Responds place response
  responds = worst_response (tasks_of planned_rows) (start_of planned_rows) (level_of planned_rows) place 24 10 response n longest test

all_in_time_lem : (place : ℕ) → place < length planned_rows → NeverLate (tasks_of planned_rows) (start_of planned_rows) (level_of planned_rows) place
all_in_time_lem zero l = in_time 0 3 7 1 refl
all_in_time_lem (suc zero) l = in_time 1 12 4 1 refl
all_in_time_lem (suc (suc zero)) l = in_time 2 12 4 1 refl
all_in_time_lem (suc (suc (suc place))) l = absurd (omega arith)

pub worked_plan : WorkedPlan
worked_plan =
    record {
      in_time = all_in_time_lem;
      first_response = responds 0 3 7 1 refl;
      second_response = responds 1 12 4 1 refl;
      third_response = responds 2 12 4 1 refl;
      chart = is_chart (shown planned_rows) (shown_at planned_rows) (shown_is planned_rows) 0 24 planned_bars refl;
      bytes = refl;
    }

-- the rows are without fault
pub sound : rows_fault planned_rows ≡ None
unfolding rows_fault first_fault gcd euclid lcm
sound = refl
