-- Tables worked out: which of them have a plan, with which starts, and which have none.
use Rattle.std.specs.Prelude.{◌≡◌, ℕ, List, [], ◌∷◌, Some, None, Err, Result, slice_index}
use Rattle.refusals.specs.declared.Refusal.{Refusal}
use Rattle.refusals.specs.declared.Refusal.TheVariants.{LongCommonPeriod, Overload, NoPlan}
use Rattle.periods.specs.Multiples.{common_period, period_refusal}
use Rattle.periods.specs.Listed.{number_of_choices, start_of}
use Rattle.tasks.specs.declared.figures.Figures.{Figures}
use Rattle.tasks.specs.Loads.{load, periods_in}
use Rattle.judges.specs.Meaning.{Meaning}
use Rattle.judges.specs.Tick.{InTime}
use Rattle.judges.specs.WorstStart.{InTimeAtWorst}
use Rattle.planner.specs.Orders.{NonePasses}
use Rattle.planner.specs.Plans.{PassingPlan, Unplanned, Answered}
use Rattle.planner.specs.declared.plan.Plan.{Plan}
use Rattle.charts.specs.Plans.{tasks_of}
use Rattle.worked.specs.Plan.{planned_rows, WorkedPlan}

-- a task by its work, period and deadline
abbrev pub task : ℕ → ℕ → ℕ → Figures
task work period deadline = record { work = work; period = period; deadline = deadline }

-- the tasks of the worked plan
abbrev pub three_tasks : List Figures
three_tasks = task 3 8 8 ∷ task 6 12 12 ∷ task 1 12 12 ∷ []

-- two tasks that cannot wait, with periods that keep them apart, and with periods that bring them together
abbrev pub urgent : List Figures
urgent = task 1 2 1 ∷ task 1 2 1 ∷ []

abbrev pub meeting : List Figures
meeting = task 1 2 1 ∷ task 1 3 1 ∷ []

-- a task that takes two of the ticks that another leaves, with a deadline of three ticks, and of two
abbrev pub between : List Figures
between = task 1 2 1 ∷ task 2 4 3 ∷ []

abbrev pub too_tight : List Figures
too_tight = task 1 2 1 ∷ task 2 4 2 ∷ []

-- more work than ticks
abbrev pub overfull : List Figures
overfull = task 2 2 2 ∷ task 1 3 3 ∷ []

-- the level of a place
abbrev pub level_in : List ℕ → ℕ → ℕ
level_in levels place = slice_index levels place

-- starts and levels by place that make a plan: a listed choice, and an order that passes with it
abbrev pub IsPlan : Meaning → List Figures → List ℕ → List ℕ → Type 0
IsPlan M tasks starts levels = PassingPlan M tasks starts (level_in levels)

-- a table that is refused
pub record Refused (M : Meaning) (tasks : List Figures) (refusal : Refusal) : Type 0 where
  -- with this
  pub unplanned : Unplanned M tasks refusal
  -- and the planner's promise leaves no other answer
  pub only : (answer : Result Plan Refusal) → Answered M tasks answer → answer ≡ Err refusal

-- three tasks that one judge plans and another does not
pub record ThreeTasks : Type 0 where
  -- all comes round after 24 ticks
  pub comes_round : common_period (periods_in three_tasks) ≡ 24
  -- of which 23 are work
  pub work : load three_tasks ≡ 23
  -- so many choices of starts are listed
  pub choices : number_of_choices (periods_in three_tasks) ≡ 48
  -- the worked plan is one of these tasks
  pub rows : tasks_of planned_rows ≡ three_tasks
  -- the tick judge passes its starts and levels
  pub by_tick : IsPlan InTime three_tasks (0 ∷ 0 ∷ 10 ∷ []) (1 ∷ 2 ∷ 3 ∷ [])
  -- the worst-start judge passes no order, with any starts
  pub by_worst_start : Refused InTimeAtWorst three_tasks NoPlan

-- two tasks that have a plan only if the second starts at 1
pub record OnlyApart (tasks : List Figures) : Type 0 where
  -- if both start at 0, no order passes
  pub together : NonePasses InTime tasks (start_of (0 ∷ 0 ∷ []))
  -- if the second starts at 1, the order with the first above it passes
  pub apart : IsPlan InTime tasks (0 ∷ 1 ∷ []) (1 ∷ 2 ∷ [])
  -- no order passes with any other listed choice
  pub only :
      (starts : List ℕ) (levels : ℕ → ℕ) → PassingPlan InTime tasks starts levels → starts ≡ 0 ∷ 1 ∷ []

-- two tasks that no judge is asked about
pub record TooMuchWork {J : Type 0} (means : J → Meaning) : Type 0 where
  -- all comes round after 6 ticks
  pub comes_round : common_period (periods_in overfull) ≡ 6
  -- which bring work for 8
  pub work : load overfull ≡ 8
  -- refused, whatever the judge
  pub refused : (judge : J) → Refused (means judge) overfull Overload

-- where a common period becomes too long
pub record Limits : Type 0 where
  -- the longest is 10,000 ticks
  pub longest : common_period (16 ∷ 625 ∷ []) ≡ 10000
  -- and accepted
  pub accepted : period_refusal (16 ∷ 625 ∷ []) ≡ None
  -- one tick more
  pub longer : common_period (73 ∷ 137 ∷ []) ≡ 10001
  -- is refused
  pub refused : period_refusal (73 ∷ 137 ∷ []) ≡ Some LongCommonPeriod

-- All that is worked out, with J for any kind of judge.
pub record WorkedTables {J : Type 0} (means : J → Meaning) : Type 0 where
  -- three tasks that one judge plans and another does not
  pub three_worked : ThreeTasks
  -- a plan of them, to the tick and to the byte
  pub plan : WorkedPlan
  -- a plan only with starts apart: two tasks of one period that cannot wait
  pub urgent_apart : OnlyApart urgent
  -- no plan: with the periods 2 and 3 they meet, whatever their starts
  pub always_meeting : Refused InTime meeting NoPlan
  -- a plan only with starts apart: two ticks between the requests of another task
  pub between_apart : OnlyApart between
  -- no plan: the same with a deadline one tick earlier
  pub never_between : Refused InTime too_tight NoPlan
  -- refused before a judge is asked: more work than ticks
  pub overload : TooMuchWork means
  -- the longest common period, and one that is too long
  pub limits : Limits
