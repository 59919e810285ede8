-- A sheet that is formed of rows without fault.
use Rattle.std.proofs.Common.{◌≡◌, ℕ, true, List, is_ok, None, Ok, Err, Option, Result, refl, subst, arith}
use Rattle.sheets.specs.declared.fault.SheetFault.{SheetFault}
use Rattle.sheets.specs.declared.row.SheetRow.{SheetRow}
use Rattle.sheets.specs.declared.sheet.Sheet.{Sheet}
use Rattle.sheets.specs.Sheets.{rows_of, Gives}

pub forms : (fault : Option SheetFault) (rows : List SheetRow) → fault ≡ None → (r : Result Sheet SheetFault) → Gives fault rows r → is_ok r ≡ true
forms fault rows none (Ok sheet) gives = refl
forms fault rows none (Err reason) gives = absurd (let z : ◌≡◌ {A = ℕ} 0 1 = cc in omega arith)

pub formed :
    (fault : Option SheetFault) (rows : List SheetRow) (r : Result Sheet SheetFault) (sheet : Sheet) → Gives fault rows r → r ≡ Ok sheet →
    rows_of sheet ≡ rows
formed fault rows r sheet gives is = (subst (Gives fault rows) is gives).1
