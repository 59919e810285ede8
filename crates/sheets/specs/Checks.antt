-- The entries of a sheet, and the checks that they have to pass.
use Rattle.std.specs.Prelude.{◌≡◌, ℕ, ◌+◌, ◌-◌, ◌<◌, ◌≤◌, Bool, ◌||◌, List, [], ◌∷◌, ◌++◌, map, length, None, Option, Result, ◌==◌, nat_le, nat_lt, slice_index}
use Rattle.std.specs.Option.{option_map, option_or}
use Rattle.std.specs.Borrow.{Bor}
use Rattle.std.specs.Fn.{Shared}
use Rattle.std.specs.Result.{result_err}
use Rattle.std.specs.Bool.{then_some}
use Rattle.std.specs.List.{AllByRecursion, list_any}
use Rattle.periods.specs.Multiples.{most_tasks, longest_common_period, common_period}
use Rattle.tasks.specs.Figures.{first_fault}
use Rattle.tasks.specs.Loads.{periods_in}
use Rattle.tasks.specs.Rows.{row_of, Rising}
use Rattle.tasks.specs.Timed.{Sound as FormsCase, figures_given}
use Rattle.tasks.specs.declared.rows.Row.{Row}
use Rattle.tasks.specs.declared.rows.Timed.{Timed}
use Rattle.sheets.specs.declared.fault.EntryFault.{EntryFault}
use Rattle.sheets.specs.declared.fault.EntryFault.TheVariants.{UnsortedId, Figures as UnfairFigures, LateStart, WrongLevel}
use Rattle.sheets.specs.declared.fault.SheetFault.{SheetFault}
use Rattle.sheets.specs.declared.fault.SheetFault.TheVariants.{WrongCount, Entry, LongCommonPeriod}
use Rattle.sheets.specs.declared.fault.WrongEntry.{WrongEntry}
use Rattle.sheets.specs.declared.row.SheetRow.{SheetRow}

-- the tasks alone, and with their starts; the ids; the levels
abbrev pub tasks_in : List SheetRow → List Row
tasks_in rows = map (λ row. row_of row.id row.figures) rows

abbrev pub timed_in : List SheetRow → List Timed
timed_in rows = map (λ row. record { figures = row.figures; start = row.start }) rows

abbrev pub ids_in : List SheetRow → List ℕ
ids_in rows = map (λ row. row.id) rows

abbrev pub levels_in : List SheetRow → List ℕ
levels_in rows = map (λ row. row.level) rows

-- no number stands in two places
abbrev pub Different : List ℕ → Type 0
Different numbers = (i j : ℕ) → i < length numbers → j < length numbers → slice_index numbers i ≡ slice_index numbers j → i ≡ j

-- what a sheet holds: tasks in rising order of their ids, which form a case with their starts,
-- and a level for each, from 1 to their number, all different
pub record Sound (rows : List SheetRow) : Type 0 where
  pub rising : Rising 1 (tasks_in rows)
  pub case : FormsCase (timed_in rows)
  pub levels : AllByRecursion (λ level. (1 ≤ level) × (level ≤ length rows)) (levels_in rows)
  pub different : Different (levels_in rows)

-- the id of the last of some entries, and 0 if there is none
abbrev pub last_id : List SheetRow → ℕ
last_id rows = slice_index (ids_in rows) (length rows - 1)

abbrev pub is_in : ℕ → List ℕ → Bool
is_in number numbers = list_any (λ other. number == other) numbers

-- what a check finds wrong with an entry: unfair figures, a late start, and, given the entries before it, an id that is
-- not above theirs or, of so many entries, a wrong level
abbrev pub id_fault : List SheetRow → SheetRow → Option EntryFault
id_fault earlier row = then_some (nat_le row.id (last_id earlier)) UnsortedId

abbrev pub figures_fault : SheetRow → Option EntryFault
figures_fault row = option_map UnfairFigures (first_fault row.figures)

abbrev pub start_fault : SheetRow → Option EntryFault
start_fault row = then_some (nat_le row.figures.period row.start) LateStart

abbrev pub level_fault : ℕ → List SheetRow → SheetRow → Option EntryFault
level_fault count earlier row =
    then_some (row.level == 0 || (nat_lt count row.level || is_in row.level (levels_in earlier))) WrongLevel

-- a closure is such a check
abbrev pub Checks : {F : Type 0} → Shared F (Bor (List SheetRow) × (SheetRow × Unit {0})) (Result (Unit {0}) EntryFault) → F → (List SheetRow → SheetRow → Option EntryFault) → Type 0
Checks {F} calls check fault =
    (earlier : Bor (List SheetRow)) (row : SheetRow) (r : Result (Unit {0}) EntryFault) → calls.post check (earlier, (row, tt)) r →
    result_err r ≡ fault earlier.now row

-- the first wrong entry, its place counted from 1; the earlier entries have passed
abbrev pub first_wrong : (List SheetRow → SheetRow → Option EntryFault) → List SheetRow → List SheetRow → Option WrongEntry
first_wrong check earlier [] = None
first_wrong check earlier (row ∷ rows) =
    option_or (option_map (λ fault. record { place = length earlier + 1; fault = fault }) (check earlier row))
    (first_wrong check (earlier ++ row ∷ []) rows)

-- each check covers all entries before the next begins
abbrev pub entries_fault : List SheetRow → Option WrongEntry
entries_fault rows =
    option_or (first_wrong id_fault [] rows)
    (option_or (first_wrong (λ _. figures_fault) [] rows)
    (option_or (first_wrong (λ _. start_fault) [] rows) (first_wrong (level_fault (length rows)) [] rows)))

-- no entry, or too many
abbrev pub count_fault : ℕ → Option SheetFault
count_fault count = then_some (count == 0 || nat_lt most_tasks count) WrongCount

abbrev pub period_fault : List SheetRow → Option SheetFault
period_fault rows = then_some (nat_lt longest_common_period (common_period (periods_in (figures_given (timed_in rows))))) LongCommonPeriod

-- why entries make no sheet, in the order in which it is said
unfoldable pub rows_fault : List SheetRow → Option SheetFault
rows_fault rows = option_or (count_fault (length rows)) (option_or (option_map Entry (entries_fault rows)) (period_fault rows))
