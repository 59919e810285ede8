-- Rows of a sheet as a plan of its tasks.
use Rattle.std.specs.Prelude.{ℕ, suc, Bool, ◌&&◌, List, [], ◌∷◌, map, length, nat_lt}
use Rattle.tasks.specs.declared.rows.Row.{Row}
use Rattle.judges.specs.Meaning.{Meaning}
use Rattle.planner.specs.Orders.{PassingOrder}
use Rattle.planner.specs.Plans.{PassingPlan}
use Rattle.charts.specs.Plans.{tasks_of, start_of, level_of}
use Rattle.sheets.specs.declared.row.SheetRow.{SheetRow}

-- the starts of all tasks
abbrev pub starts_in : List SheetRow → List ℕ
starts_in rows = map (λ row. row.start) rows

-- the levels are an order that passes the judge with the starts
abbrev pub Ordered : Meaning → List SheetRow → Type 0
Ordered M rows = PassingOrder M (tasks_of rows) (start_of rows) (level_of rows)

-- a plan that the planner gives: the starts are a listed choice besides
abbrev pub Planned : Meaning → List SheetRow → Type 0
Planned M rows = PassingPlan M (tasks_of rows) (starts_in rows) (level_of rows)

-- the places of a smaller level than that of a place
abbrev pub above : List SheetRow → ℕ → ℕ → Bool
above rows place other = nat_lt other (length rows) && nat_lt (level_of rows other) (level_of rows place)

-- tasks with starts and levels by place
abbrev pub with_plan : List Row → (ℕ → ℕ) → (ℕ → ℕ) → List SheetRow
with_plan [] starts levels = []
with_plan (row ∷ rows) starts levels =
    record { id = row.id; figures = row.figures; start = starts 0; level = levels 0 }
    ∷ with_plan rows (λ place. starts (suc place)) (λ place. levels (suc place))
