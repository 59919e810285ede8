-- Plans that are kept.
use Rattle.std.specs.Prelude.{ℕ, ◌<◌, List, length}
use Rattle.timeline.specs.Timeline.{NeverLate}
use Rattle.charts.specs.Plans.{tasks_of, start_of, level_of}
use Rattle.sheets.specs.declared.row.SheetRow.{SheetRow}

-- no request of any task is late, at any tick of the endless timeline of all the tasks
abbrev pub NoneLate : List SheetRow → Type 0
NoneLate rows = (place : ℕ) → place < length rows → NeverLate (tasks_of rows) (start_of rows) (level_of rows) place
