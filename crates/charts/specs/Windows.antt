-- A walk along a window of the timeline.
use Rattle.std.specs.Prelude.{◌≡◌, ℕ, ◌<◌, List, Some, None, Option, ◌≢◌}
use Rattle.entries.specs.declared.Bar.{Bar}
use Rattle.sheets.specs.Sheets.{rows_of}
use Rattle.charts.specs.Charts.{shown, IsChart}
use Rattle.charts.specs.declared.bars.Bars.{Bars}
use Rattle.charts.specs.declared.running.Run.{Run}
use Rattle.charts.specs.Runs.{RanBy}

-- the chart of what is left of the window
abbrev pub ChartAhead : Bars → List Bar → Type 0
ChartAhead w = IsChart (shown (rows_of w.running.sheet.now)) w.running.processor.tick w.to

-- the walk went on by n ticks, each of which shows the id
pub record Went (w : Bars) (id n : ℕ) (w' : Bars) : Type 0 where
  pub ran : RanBy w.running id n w'.running
  pub to : w'.to ≡ w.to

-- the next ticks of one id; none at the end of the window
abbrev pub NextRun : Bars → Option Run → Bars → Type 0
NextRun w (Some run) w' = (0 < run.length) × Went w run.id run.length w'
NextRun w None w' = (w.running.processor.tick ≡ w.to) × (w' ≡ w)

-- the next ticks, if they show this id; else the walk stays
abbrev pub MoreOf : Bars → ℕ → Option ℕ → Bars → Type 0
MoreOf w id (Some n) w' = (0 < n) × Went w id n w'
MoreOf w id None w' =
    (w' ≡ w) × (w.running.processor.tick < w.to → shown (rows_of w.running.sheet.now) w.running.processor.tick ≢ id)
