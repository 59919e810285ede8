-- What a book holds.
use Rattle.std.specs.Prelude.{ℕ, ◌-◌, not, List, [], map, is_some, Some, None, Option}
use Rattle.refusals.specs.Answers.{or_else, refuse_if}
use Rattle.refusals.specs.declared.Refusal.{Refusal}
use Rattle.refusals.specs.declared.Refusal.TheVariants.{NoStandingPlan}
use Rattle.tasks.specs.Rows.{place_of, unknown_refusal}
use Rattle.tasks.specs.Tables.{rows_of as table_rows}
use Rattle.tasks.specs.declared.figures.Figures.{Figures}
use Rattle.tasks.specs.declared.rows.Row.{Row}
use Rattle.sheets.specs.Checks.{tasks_in}
use Rattle.sheets.specs.Sheets.{rows_of}
use Rattle.sheets.specs.declared.row.SheetRow.{SheetRow}
use Rattle.book.specs.declared.book.Book.{Book}
use Rattle.book.specs.declared.book.Held.{Held}
use Rattle.book.specs.declared.book.Held.TheVariants.{Tasks, Plan}

-- the tasks that stand, in rising order of their ids
abbrev pub rows_held : Held → List Row
rows_held (Tasks table) = table_rows table
rows_held (Plan plan) = tasks_in (rows_of plan.sheet)

-- the plan that stands: the tasks with their starts and levels
abbrev pub plan_held : Held → Option (List SheetRow)
plan_held (Tasks table) = None
plan_held (Plan plan) = Some (rows_of plan.sheet)

abbrev pub plan_rows_held : Held → List SheetRow
plan_rows_held (Tasks table) = []
plan_rows_held (Plan plan) = rows_of plan.sheet

abbrev pub rows_in : {J : Type 0} → Book J → List Row
rows_in book = rows_held book.held

abbrev pub plan_in : {J : Type 0} → Book J → Option (List SheetRow)
plan_in book = plan_held book.held

-- the same rows, and none where no plan stands
abbrev pub plan_rows : {J : Type 0} → Book J → List SheetRow
plan_rows book = plan_rows_held book.held

-- the figures of the tasks, in their places
abbrev pub figures_in : {J : Type 0} → Book J → List Figures
figures_in book = map (λ row. row.figures) (rows_in book)

-- the place of an id, counted from 0
abbrev pub place_in : {J : Type 0} → Book J → ℕ → ℕ
place_in book id = place_of id (rows_in book) - 1

-- why a question about the plan of a task is refused, in the order in which it is said
abbrev pub plan_refusal : {J : Type 0} → Book J → Option Refusal
plan_refusal book = refuse_if (not (is_some (plan_in book))) NoStandingPlan

abbrev pub ask_refusal : {J : Type 0} → Book J → ℕ → Option Refusal
ask_refusal book id = or_else (unknown_refusal id (rows_in book)) (plan_refusal book)
