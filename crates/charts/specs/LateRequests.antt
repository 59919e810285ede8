-- The late requests of a sheet.
use Rattle.std.specs.Prelude.{◌≡◌, ℕ, ◌<◌, ◌≤◌, ◌⊎◌, List, [], ◌∷◌, length}
use Rattle.timeline.specs.Timeline.{request_of, deadline_of, Late}
use Rattle.entries.specs.declared.LateRequest.{LateRequest}
use Rattle.sheets.specs.declared.row.SheetRow.{SheetRow}
use Rattle.charts.specs.Plans.{tasks_of, start_of, level_of, id_of, horizon}

-- request k of the task at a place
abbrev pub request_at : List SheetRow → ℕ → ℕ → LateRequest
request_at rows place k =
    record {
      id = id_of rows place;
      request = request_of (tasks_of rows) (start_of rows) place k;
      deadline = deadline_of (tasks_of rows) (start_of rows) place k;
    }

-- a late request with a deadline up to and including the horizon
pub record IsLate (rows : List SheetRow) (e : LateRequest) : Type 0 where
  pub place : ℕ
  pub k : ℕ
  pub inside : place < length rows
  pub is : e ≡ request_at rows place k
  pub late : Late (tasks_of rows) (start_of rows) (level_of rows) place k
  pub told : e.deadline ≤ horizon rows

-- by deadline, then by id
abbrev pub Before : LateRequest → LateRequest → Type 0
Before a b = (a.deadline < b.deadline) ⊎ ((a.deadline ≡ b.deadline) × (a.id < b.id))

-- an entry stands in a list
abbrev pub In : LateRequest → List LateRequest → Type 0
In e [] = ⊥
In e (other ∷ others) = (e ≡ other) ⊎ In e others

-- each entry is before all that follow it
abbrev pub Rising : List LateRequest → Type 0
Rising [] = Unit {0}
Rising (e ∷ later) = ((other : LateRequest) → In other later → Before e other) × Rising later

-- exactly the requests of which P holds, in order
pub record InOrder (P : LateRequest → Type 0) (entries : List LateRequest) : Type 0 where
  pub rising : Rising entries
  pub only : (e : LateRequest) → In e entries → P e
  pub all : (e : LateRequest) → P e → In e entries

-- there is one such list at most
abbrev pub OneOrder : (LateRequest → Type 0) → Type 0
OneOrder P = (entries others : List LateRequest) → InOrder P entries → InOrder P others → entries ≡ others
