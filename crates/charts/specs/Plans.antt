-- The tasks of a sheet on the endless timeline. Places are counted from 0.
use Rattle.std.specs.Prelude.{ℕ, suc, ◌+◌, ◌*◌, max, List, [], ◌∷◌, map, Option, ◌==◌, slice_index}
use Rattle.std.specs.List.{find}
use Rattle.periods.specs.Multiples.{common_period}
use Rattle.tasks.specs.declared.figures.Figures.{Figures}
use Rattle.tasks.specs.Loads.{periods_in}
use Rattle.tasks.specs.Timed.{figures_given}
use Rattle.timeline.specs.Processor.{Demands}
use Rattle.timeline.specs.Timeline.{demands}
use Rattle.sheets.specs.Checks.{timed_in, ids_in, levels_in}
use Rattle.sheets.specs.declared.row.SheetRow.{SheetRow}

abbrev pub tasks_of : List SheetRow → List Figures
tasks_of rows = figures_given (timed_in rows)

abbrev pub start_of : List SheetRow → ℕ → ℕ
start_of rows place = slice_index (map (λ row. row.start) rows) place

abbrev pub level_of : List SheetRow → ℕ → ℕ
level_of rows place = slice_index (levels_in rows) place

abbrev pub id_of : List SheetRow → ℕ → ℕ
id_of rows place = slice_index (ids_in rows) place

-- what the tasks demand, by the levels of the sheet
unfoldable pub demands_of : List SheetRow → Demands
demands_of rows = demands (tasks_of rows) (start_of rows) (level_of rows)

abbrev pub latest_start : List SheetRow → ℕ
latest_start [] = 0
latest_start (row ∷ rows) = max row.start (latest_start rows)

-- the last tick that is told of: two common periods after the latest start
unfoldable pub horizon : List SheetRow → ℕ
horizon rows = latest_start rows + 2 * common_period (periods_in (tasks_of rows))

-- the row on a level
abbrev pub row_on : ℕ → List SheetRow → Option SheetRow
row_on level rows = find (λ row. row.level == level) rows

-- the same demands by the levels of a processor, which counts them from 0 and not from 1
abbrev pub from_zero : Demands → Demands
from_zero D level tick = D (suc level) tick
