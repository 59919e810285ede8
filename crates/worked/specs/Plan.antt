-- A plan worked out: three tasks, planned at 0, 0 and 10 in the order of their ids.
use Rattle.std.specs.Prelude.{◌≡◌, ℕ, ◌<◌, List, [], ◌∷◌, length}
use Rattle.timeline.specs.Timeline.{NeverLate, WorstResponse}
use Rattle.entries.specs.declared.Bar.{Bar}
use Rattle.sheets.specs.declared.row.SheetRow.{SheetRow}
use Rattle.sheets.specs.Bytes.{encoded}
use Rattle.charts.specs.Plans.{tasks_of, start_of, level_of}
use Rattle.charts.specs.Charts.{IsChart, shown}

-- a task that is due when it is next asked for, on the level of its id
abbrev pub planned_row : ℕ → ℕ → ℕ → ℕ → SheetRow
planned_row id work period start = record {
  id = id;
  figures = record { work = work; period = period; deadline = period };
  start = start;
  level = id;
}

abbrev pub planned_rows : List SheetRow
planned_rows = planned_row 1 3 8 0 ∷ planned_row 2 6 12 0 ∷ planned_row 3 1 12 10 ∷ []

-- from its first tick, so many ticks, the task with this id; id 0 is idle
abbrev pub run_of : ℕ → ℕ → ℕ → Bar
run_of first length id = record { first = first; length = length; id = id }

abbrev pub planned_bars : List Bar
planned_bars =
    run_of 0 3 1 ∷ run_of 3 5 2 ∷ run_of 8 3 1 ∷ run_of 11 5 2 ∷ run_of 16 3 1 ∷ run_of 19 2 2 ∷ run_of 21 2 3 ∷ run_of 23 1 0 ∷ []

abbrev pub planned_bytes : List ℕ
planned_bytes =
    0x00 ∷ 0x03 ∷ 0x00 ∷ 0x22
    ∷ 0x01 ∷ 0x00 ∷ 0x03 ∷ 0x00 ∷ 0x08 ∷ 0x00 ∷ 0x08
    ∷ 0x02 ∷ 0x00 ∷ 0x06 ∷ 0x00 ∷ 0x0c ∷ 0x00 ∷ 0x0c
    ∷ 0x03 ∷ 0x00 ∷ 0x01 ∷ 0x00 ∷ 0x0c ∷ 0x00 ∷ 0x0c
    ∷ 0x00 ∷ 0x00 ∷ 0x01 ∷ 0x00 ∷ 0x00 ∷ 0x02 ∷ 0x00 ∷ 0x0a ∷ 0x03 ∷ []

-- the worst response of the task at a place of the plan
abbrev pub Responds : ℕ → ℕ → Type 0
Responds place response = WorstResponse (tasks_of planned_rows) (start_of planned_rows) (level_of planned_rows) place response

pub record WorkedPlan : Type 0 where
  -- no request of any task is ever late
  pub in_time : (place : ℕ) → place < length planned_rows → NeverLate (tasks_of planned_rows) (start_of planned_rows) (level_of planned_rows) place
  -- the worst response of each task
  pub first_response : Responds 0 3
  pub second_response : Responds 1 12
  pub third_response : Responds 2 12
  -- who runs in the first common period, to the tick
  pub chart : IsChart (shown planned_rows) 0 24 planned_bars
  -- the sheet as it is filed
  pub bytes : encoded planned_rows ≡ planned_bytes
