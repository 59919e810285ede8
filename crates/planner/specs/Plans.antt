-- Plans of a table: starts and levels that pass a judge.
use Rattle.std.specs.Prelude.{◌≡◌, ℕ, suc, ◌<◌, ◌≤◌, ◌⊎◌, List, [], ◌∷◌, map, length, Some, None, Ok, Err, Option, Result, slice_index}
use Rattle.std.specs.List.{range_with_len}
use Rattle.short_list.specs.Items.{items_of}
use Rattle.refusals.specs.declared.Refusal.{Refusal}
use Rattle.refusals.specs.declared.Refusal.TheVariants.{Overload, NoPlan as NoPlanRefusal}
use Rattle.periods.specs.Listed.{Listed, choices_refusal, start_of}
use Rattle.periods.specs.Multiples.{common_period}
use Rattle.tasks.specs.declared.figures.Figures.{Figures}
use Rattle.tasks.specs.declared.rows.Row.{Row}
use Rattle.tasks.specs.declared.rows.Timed.{Timed}
use Rattle.tasks.specs.Loads.{load, periods_in}
use Rattle.judges.specs.Meaning.{Meaning}
use Rattle.planner.specs.declared.order.Order.{Order}
use Rattle.planner.specs.declared.plan.Assignment.{Assignment}
use Rattle.planner.specs.declared.plan.Plan.{Plan}
use Rattle.planner.specs.Orders.{Levels, Passes, PassingOrder, NonePasses, places_of, level_of}

-- what a plan gives each task, by place, and how many tasks it has
abbrev pub given_in : Plan → List Assignment
given_in plan = items_of plan.given

abbrev pub count_of : Plan → ℕ
count_of plan = length (given_in plan)

-- the starts and the levels of all tasks
abbrev pub starts_in : Plan → List ℕ
starts_in plan = map (λ task. task.start) (given_in plan)

abbrev pub levels_in : Plan → List ℕ
levels_in plan = map (λ task. task.level) (given_in plan)

-- the start and the level of a place
abbrev pub start_at : Plan → ℕ → ℕ
start_at plan place = slice_index (starts_in plan) place

abbrev pub level_at : Plan → ℕ → ℕ
level_at plan place = slice_index (levels_in plan) place

-- starts by place with the levels of an order: of the first places, and of all
abbrev pub given_to : List ℕ → Order → ℕ → List Assignment
given_to starts order n = map (λ place. record { start = start_of starts place; level = level_of order place }) (range_with_len 0 n)

abbrev pub given_by : List ℕ → Order → List Assignment
given_by starts order = given_to starts order (length (places_of order))

-- a listed choice of starts, and an order that passes with it
pub record PassingPlan (M : Meaning) (tasks : List Figures) (starts : List ℕ) (levels : ℕ → ℕ) : Type 0 where
  pub listed : Listed (periods_in tasks) starts
  pub ordered : PassingOrder M tasks (start_of starts) levels

-- the starts of a plan are a listed choice, and its levels pass with them
pub record Planned (M : Meaning) (tasks : List Figures) (plan : Plan) : Type 0 where
  pub count : count_of plan ≡ length tasks
  pub listed : Listed (periods_in tasks) (starts_in plan)
  pub levels : Levels (length tasks) (level_at plan)
  pub passes : Passes M tasks (start_at plan) (level_at plan)

-- no order passes with any whole starts, however large
abbrev pub NoPlan : Meaning → List Figures → Type 0
NoPlan M tasks = (starts : ℕ → ℕ) → NonePasses M tasks starts

-- a plan that passes, or none if no order passes with any starts
abbrev pub PlanIfAny : Meaning → List Figures → Option Plan → Type 0
PlanIfAny M tasks (Some plan) = Planned M tasks plan
PlanIfAny M tasks None = NoPlan M tasks

-- a plan, or none if there is none, unless the choices of starts are not listed
abbrev pub Searched : Meaning → List Figures → Result (Option Plan) Refusal → Type 0
Searched M tasks (Ok found) = (choices_refusal (periods_in tasks) ≡ None) × PlanIfAny M tasks found
Searched M tasks (Err refusal) = choices_refusal (periods_in tasks) ≡ Some refusal

-- Why there is no plan, in the order in which it is said: the choices of starts are not listed; the load is above the
-- common period; no order passes with any starts.
abbrev pub Unplanned : Meaning → List Figures → Refusal → Type 0
Unplanned M tasks refusal =
    (choices_refusal (periods_in tasks) ≡ Some refusal)
    ⊎ (((choices_refusal (periods_in tasks) ≡ None) × (common_period (periods_in tasks) < load tasks) × (refusal ≡ Overload))
    ⊎ ((choices_refusal (periods_in tasks) ≡ None) × (load tasks ≤ common_period (periods_in tasks)) × NoPlan M tasks × (refusal ≡ NoPlanRefusal)))

-- a plan, or why there is none
abbrev pub Answered : Meaning → List Figures → Result Plan Refusal → Type 0
Answered M tasks (Ok plan) =
    (choices_refusal (periods_in tasks) ≡ None) × (load tasks ≤ common_period (periods_in tasks)) × Planned M tasks plan
Answered M tasks (Err refusal) = Unplanned M tasks refusal

-- rows of a table with starts by place
abbrev pub timed : List Row → (ℕ → ℕ) → List Timed
timed [] starts = []
timed (row ∷ rows) starts = record { figures = row.figures; start = starts 0 } ∷ timed rows (λ place. starts (suc place))
