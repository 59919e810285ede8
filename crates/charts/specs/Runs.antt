-- What the processor of a sheet runs, told by ids.
use Rattle.std.specs.Prelude.{◌≡◌, ℕ, ◌+◌, ◌<◌, ◌≤◌, min, List, Some, None, Option}
use Rattle.runner.specs.Levels.{last_tick}
use Rattle.sheets.specs.Sheets.{rows_of}
use Rattle.sheets.specs.declared.row.SheetRow.{SheetRow}
use Rattle.charts.specs.Charts.{shown}
use Rattle.charts.specs.Plans.{row_on}
use Rattle.charts.specs.declared.running.Run.{Run}
use Rattle.charts.specs.declared.running.Running.{Running}

-- the id of the row that runs on a level of the processor, and 0 where none does
abbrev pub id_on : Option SheetRow → ℕ
id_on (Some row) = row.id
id_on None = 0

abbrev pub id_for : List SheetRow → Option ℕ → ℕ
id_for rows (Some level) = id_on (row_on (level + 1) rows)
id_for rows None = 0

-- the sheet ran on by n ticks, each of which shows the id
pub record RanBy (r : Running) (id n : ℕ) (r' : Running) : Type 0 where
  pub sheet : r'.sheet.now ≡ r.sheet.now
  pub tick : r'.processor.tick ≡ r.processor.tick + n
  pub same : (tick : ℕ) → r.processor.tick ≤ tick → tick < r'.processor.tick → shown (rows_of r.sheet.now) tick ≡ id

-- the next ticks of one id, up to a tick; none there or beyond, or at the last tick
abbrev pub NextTicks : Running → ℕ → Option Run → Running → Type 0
NextTicks r until (Some run) r' = (0 < run.length) × (r'.processor.tick ≤ until) × RanBy r run.id run.length r'
NextTicks r until None r' = (min until last_tick ≤ r.processor.tick) × (r' ≡ r)
