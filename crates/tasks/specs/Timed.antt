-- Tasks with their starts, and why they may not form a case.
use Rattle.std.specs.Prelude.{◌<◌, ◌≤◌, Bool, ◌&&◌, List, map, length, Option, nat_le, nat_lt}
use Rattle.std.specs.Option.{option_map}
use Rattle.std.specs.List.{AllByRecursion, find, list_any, list_all}
use Rattle.refusals.specs.Answers.{or_else, refuse_if}
use Rattle.refusals.specs.declared.Refusal.{Refusal}
use Rattle.refusals.specs.declared.Refusal.TheVariants.{Figures as BadFigures, TooManyTasks, LateStart}
use Rattle.refusals.specs.declared.TaskFault.{TaskFault}
use Rattle.periods.specs.Multiples.{most_tasks, longest_common_period, common_period, period_refusal}
use Rattle.tasks.specs.declared.figures.Figures.{Figures}
use Rattle.tasks.specs.declared.rows.Timed.{Timed}
use Rattle.tasks.specs.Figures.{Fair, is_fair, breaks, faults}
use Rattle.tasks.specs.Loads.{periods_in}

-- the figures of the tasks, in their places
abbrev pub figures_given : List Timed → List Figures
figures_given rows = map (λ row. row.figures) rows

-- a row that a case may hold: fair, with a start below its period
abbrev pub Timely : Timed → Type 0
Timely row = Fair row.figures × (row.start < row.figures.period)

-- the same as a test, and the test of all rows
abbrev pub is_timely : Timed → Bool
is_timely row = is_fair row.figures && nat_lt row.start row.figures.period

abbrev pub are_timely : List Timed → Bool
are_timely rows = list_all is_timely rows

-- what a case is: one to eight such rows, with a common period that is not too long
pub record Sound (rows : List Timed) : Type 0 where
  pub some : 1 ≤ length rows
  pub few : length rows ≤ most_tasks
  pub fair : AllByRecursion (λ row. Fair row.figures) rows
  pub timely : AllByRecursion (λ row. row.start < row.figures.period) rows
  pub short : common_period (periods_in (figures_given rows)) ≤ longest_common_period

-- the first fault that any row has
unfoldable pub first_fault_in : List Timed → Option TaskFault
first_fault_in rows = find (λ fault. list_any (λ row. breaks row.figures fault) rows) faults

-- the start is not below the period
abbrev pub starts_late : Timed → Bool
starts_late row = nat_le row.figures.period row.start

-- why no case is formed, in the order in which it is said: the first fault that any row has, too many rows,
-- no common period to work with, a late start
abbrev pub case_refusal : List Timed → Option Refusal
case_refusal rows =
    or_else (option_map BadFigures (first_fault_in rows))
    (or_else (refuse_if (nat_lt most_tasks (length rows)) TooManyTasks)
    (or_else (period_refusal (periods_in (figures_given rows))) (refuse_if (list_any starts_late rows) LateStart)))
