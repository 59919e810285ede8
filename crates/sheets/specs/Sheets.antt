-- A sheet, and what reading and writing one promise.
use Rattle.std.specs.Prelude.{◌≡◌, ℕ, ◌+◌, cond, List, ◌++◌, length, take, drop, Some, None, Ok, Err, Option, Result, ◌≢◌, nat_lt}
use Rattle.short_list.specs.Items.{items_of}
use Rattle.sheets.specs.Bytes.{sheet_length, longest_sheet, encoded, entries_in, sheet_fault}
use Rattle.sheets.specs.Checks.{Sound}
use Rattle.sheets.specs.declared.fault.SheetFault.{SheetFault}
use Rattle.sheets.specs.declared.row.SheetRow.{SheetRow}
use Rattle.sheets.specs.declared.sheet.Sheet.{Sheet}

-- the entries, in rising order of their ids
abbrev pub rows_of : Sheet → List SheetRow
rows_of sheet = items_of sheet.rows

-- a sheet of these rows, unless there is a fault
abbrev pub Gives : Option SheetFault → List SheetRow → Result Sheet SheetFault → Type 0
Gives fault rows (Ok sheet) = (fault ≡ None) × (rows_of sheet ≡ rows)
Gives fault rows (Err reason) = fault ≡ Some reason

-- bytes are read exactly if they are those of sound rows
abbrev pub ReadsEncoded : List ℕ → Result Sheet SheetFault → Type 0
ReadsEncoded bytes (Ok sheet) = Sound (rows_of sheet) × (bytes ≡ encoded (rows_of sheet))
ReadsEncoded bytes (Err fault) = (rows : List SheetRow) → Sound rows → bytes ≢ encoded rows

-- what is wrong with some bytes shows within the longest sheet and one byte more
abbrev pub ShowsEarly : List ℕ → Type 0
ShowsEarly bytes = sheet_fault (take (longest_sheet + 1) bytes) ≡ sheet_fault bytes

-- what is written is read again as the same rows
abbrev pub ReadsBack : List SheetRow → Type 0
ReadsBack rows = (sheet_fault (encoded rows) ≡ None) × (entries_in (encoded rows) ≡ rows)

-- a buffer begins with the bytes of the sheet and is otherwise as before, if it has room for it
abbrev pub overwritten : List SheetRow → List ℕ → List ℕ
overwritten rows buffer =
    cond (nat_lt (length buffer) (sheet_length (length rows))) buffer (encoded rows ++ drop (sheet_length (length rows)) buffer)
