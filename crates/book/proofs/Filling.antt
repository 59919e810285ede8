-- What is formed of rows without a fault.
use Rattle.std.proofs.Common.{◌≡◌, ℕ, true, List, is_ok, None, Ok, Err, Result, refl, ap, ◌∙◌, subst, arith}
use Rattle.sheets.specs.Checks.{rows_fault}
use Rattle.sheets.specs.Sheets.{rows_of, Gives}
use Rattle.sheets.specs.declared.fault.SheetFault.{SheetFault}
use Rattle.sheets.specs.declared.row.SheetRow.{SheetRow}
use Rattle.sheets.specs.declared.sheet.Sheet.{Sheet}

-- a sheet of rows without a fault
module _ (given goal : List SheetRow) (r : Result Sheet SheetFault) (formed : Gives (rows_fault given) given r) (same : given ≡ goal) where
  pub sheet_forms : rows_fault goal ≡ None → is_ok r ≡ true
  sheet_forms none = go r formed
    where
      go : (r : Result Sheet SheetFault) → Gives (rows_fault given) given r → is_ok r ≡ true
      go (Ok sheet) formed = refl
      go (Err fault) formed =
          let refused = ap rows_fault same in
          let never : ◌≡◌ {A = ℕ} 0 1 = cc in absurd (omega arith)

  pub sheet_holds : (sheet : Sheet) → r ≡ Ok sheet → rows_of sheet ≡ goal
  sheet_holds sheet is =
      let Of : Result Sheet SheetFault → Type 0 = Gives (rows_fault given) given in (subst Of is formed).1 ∙ same
