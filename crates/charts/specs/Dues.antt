-- A walk along the deadlines of a sheet, tick by tick and in each tick place by place.
use Rattle.std.specs.Prelude.{◌≡◌, ℕ, ◌+◌, ◌-◌, ◌*◌, ◌<◌, ◌≤◌, ◌⊎◌, List, length, Some, None, Option, ◌≢◌}
use Rattle.periods.specs.Multiples.{most_tasks}
use Rattle.timeline.specs.Requests.{request_tick}
use Rattle.timeline.specs.Timeline.{deadline_of, Late}
use Rattle.entries.specs.declared.LateRequest.{LateRequest}
use Rattle.sheets.specs.Sheets.{rows_of}
use Rattle.sheets.specs.declared.row.SheetRow.{SheetRow}
use Rattle.charts.specs.LateRequests.{request_at, IsLate, Before, InOrder}
use Rattle.charts.specs.Plans.{tasks_of, start_of, level_of}
use Rattle.charts.specs.declared.deadlines.Deadlines.{Deadlines}

-- the tick of the request of a row that is due at a tick
abbrev pub DueAt : SheetRow → ℕ → Option ℕ → Type 0
DueAt row tick (Some request) =
    (k : ℕ) × (1 ≤ k) × (request_tick row.start row.figures.period k ≡ request) × (request + row.figures.deadline ≡ tick)
DueAt row tick None = (k : ℕ) → request_tick row.start row.figures.period k + row.figures.deadline ≢ tick

-- request k of the task at a place is late at its deadline, which is this tick
abbrev pub LateNow : List SheetRow → ℕ → ℕ → ℕ → Type 0
LateNow rows place tick k =
    (deadline_of (tasks_of rows) (start_of rows) place k ≡ tick) × Late (tasks_of rows) (start_of rows) (level_of rows) place k

-- the late request of a place whose deadline is this tick
abbrev pub LateAt : List SheetRow → ℕ → ℕ → Option LateRequest → Type 0
LateAt rows place tick (Some e) = (k : ℕ) × LateNow rows place tick k × (e ≡ request_at rows place k)
LateAt rows place tick None = (k : ℕ) → LateNow rows place tick k → ⊥

-- a late request that the walk has not passed
pub record Still (w : Deadlines) (e : LateRequest) : Type 0 where
  pub late : IsLate (rows_of w.running.sheet.now) e
  pub later : (w.running.processor.tick < e.deadline) ⊎ ((e.deadline ≡ w.running.processor.tick) × (w.place ≤ late.place))

-- these requests, in order
abbrev pub LateAhead : Deadlines → List LateRequest → Type 0
LateAhead w = InOrder (Still w)

-- how many places lie ahead at most
abbrev pub places_left : Deadlines → ℕ
places_left w = (w.last + 1 - w.running.processor.tick) * most_tasks - w.place

-- the walk has passed no late request
pub record Skipped (w w' : Deadlines) : Type 0 where
  pub falls : places_left w' ≤ places_left w
  pub still : (e : LateRequest) → Still w e → Still w' e
  pub back : (e : LateRequest) → Still w' e → Still w e

-- the walk has passed one late request
pub record Found (w : Deadlines) (e : LateRequest) (w' : Deadlines) : Type 0 where
  pub falls : places_left w' < places_left w
  pub here : Still w e
  pub others : (other : LateRequest) → Still w other → (other ≡ e) ⊎ Still w' other
  pub after : (other : LateRequest) → Still w' other → Before e other × Still w other

-- the next late request of this tick, or none at the places left
abbrev pub NextHere : Deadlines → Option LateRequest → Deadlines → Type 0
NextHere w (Some e) w' = Found w e w'
NextHere w None w' =
    Skipped w w' × (w'.running.processor.tick ≡ w.running.processor.tick) × (w'.last ≡ w.last) × (length (rows_of w'.running.sheet.now) ≤ w'.place)
