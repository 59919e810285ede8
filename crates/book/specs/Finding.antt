-- A task in the plan of a book.
use Rattle.std.specs.Prelude.{◌≡◌, ℕ, List}
use Rattle.sheets.specs.Sheets.{rows_of}
use Rattle.sheets.specs.declared.row.SheetRow.{SheetRow}
use Rattle.book.specs.declared.book.Book.{Book}
use Rattle.book.specs.declared.book.Held.TheVariants.{Plan}
use Rattle.book.specs.declared.standing.task.PlannedTask.{PlannedTask}
use Rattle.book.specs.Books.{place_in}

-- the rows of the plan that a task is in
abbrev pub plan_of : PlannedTask → List SheetRow
plan_of task = rows_of task.plan.now.sheet

-- a task of the plan that stands, at the place of an id
pub record FoundAt {J : Type 0} (book : Book J) (id : ℕ) (task : PlannedTask) : Type 0 where
  pub stands : book.held ≡ Plan task.plan.now
  pub place : task.place ≡ place_in book id
