-- The bytes of a sheet.
use Rattle.std.specs.Prelude.{◌≡◌, ℕ, zero, suc, ◌+◌, ◌*◌, ◌/◌, ◌%◌, ◌≤◌, not, ◌||◌, List, [], ◌∷◌, ◌++◌, length, take, drop, None, Option, ◌==◌, nat_lt, slice_index}
use Rattle.std.specs.Option.{option_or}
use Rattle.std.specs.Bool.{then_some}
use Rattle.std.specs.List.{flat_map}
use Rattle.periods.specs.Multiples.{most_tasks}
use Rattle.sheets.specs.Checks.{count_fault, rows_fault}
use Rattle.sheets.specs.declared.fault.SheetFault.{SheetFault}
use Rattle.sheets.specs.declared.fault.SheetFault.TheVariants.{NoHeader, WrongLength}
use Rattle.sheets.specs.declared.row.SheetRow.{SheetRow}

-- a number in two bytes, the high one first
abbrev pub two_bytes : ℕ → List ℕ
two_bytes number = number / 256 % 256 ∷ number % 256 ∷ []

-- the bytes of a sheet with this many entries of each kind
abbrev pub sheet_length : ℕ → ℕ
sheet_length count = 4 + 10 * count

-- the bytes of the longest sheet
abbrev pub longest_sheet : ℕ
longest_sheet = sheet_length most_tasks

-- a task: its id and its figures
abbrev pub task_entry : SheetRow → List ℕ
task_entry row = row.id ∷ two_bytes row.figures.work ++ two_bytes row.figures.period ++ two_bytes row.figures.deadline

-- its part in the plan: its start and its level
abbrev pub plan_entry : SheetRow → List ℕ
plan_entry row = two_bytes row.start ++ row.level ∷ []

-- a sheet: the number of tasks, the number of bytes, an entry for each task, and its part in the plan in the same order
abbrev pub encoded : List SheetRow → List ℕ
encoded rows =
    two_bytes (length rows) ++ two_bytes (sheet_length (length rows)) ++ (flat_map task_entry rows ++ flat_map plan_entry rows)

-- the number in two bytes
abbrev pub number_at : ℕ → List ℕ → ℕ
number_at at bytes = slice_index bytes at * 256 + slice_index bytes (at + 1)

-- the row that the first task entry and the first plan entry tell
abbrev pub row_in : List ℕ → List ℕ → SheetRow
row_in tasks plans = record {
  id = slice_index tasks 0;
  figures = record { work = number_at 1 tasks; period = number_at 3 tasks; deadline = number_at 5 tasks };
  start = number_at 0 plans;
  level = slice_index plans 2;
}

abbrev pub rows_in : ℕ → List ℕ → List ℕ → List SheetRow
rows_in zero tasks plans = []
rows_in (suc count) tasks plans = row_in tasks plans ∷ rows_in count (drop 7 tasks) (drop 3 plans)

-- the rows that a sheet tells: after the header come the task entries, and then the plan entries
unfoldable pub entries_in : List ℕ → List SheetRow
entries_in bytes =
    rows_in (number_at 0 bytes) (take (7 * number_at 0 bytes) (drop 4 bytes)) (drop (7 * number_at 0 bytes) (drop 4 bytes))

-- what is wrong before any entry is looked at: no header, a wrong number of tasks, or a length that differs from
-- what this number asks for or from the bytes given
abbrev pub header_fault : List ℕ → Option SheetFault
header_fault bytes =
    option_or (then_some (nat_lt (length bytes) 4) NoHeader)
    (option_or (count_fault (number_at 0 bytes))
    (then_some (not (number_at 2 bytes == sheet_length (number_at 0 bytes)) || not (number_at 2 bytes == length bytes)) WrongLength))

-- why bytes are no sheet, in the order in which it is said
abbrev pub sheet_fault : List ℕ → Option SheetFault
sheet_fault bytes = option_or (header_fault bytes) (rows_fault (entries_in bytes))

-- a header without fault, and what it tells
pub record RightHeader (bytes : List ℕ) (count : ℕ) : Type 0 where
  pub right : header_fault bytes ≡ None
  pub told : number_at 0 bytes ≡ count
  pub few : count ≤ most_tasks
  pub long : length bytes ≡ sheet_length count
