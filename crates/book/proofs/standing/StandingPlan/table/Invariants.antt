use Rattle.std.proofs.Common.{◌≡◌, take}
use Rattle.tasks.specs.Tables.{rows_of as table_rows}
use Rattle.sheets.specs.Checks.{tasks_in}
use Rattle.sheets.specs.Sheets.{rows_of}
use Rattle.book.proofs.standing.StandingPlan.table.Given as goal

-- the tasks of the rows passed stand
abbrev pub invariant-loop-row : goal.invariant-loop-row
invariant-loop-row l = table_rows l.table ≡ take l.row-index (tasks_in (rows_of l.self.sheet))
