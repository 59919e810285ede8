use Rattle.std.proofs.Common.{◌≡◌, [], List, Option, take, drop}
use Rattle.sheets.specs.Checks.{Checks, first_wrong}
use Rattle.sheets.specs.declared.fault.EntryFault.{EntryFault}
use Rattle.sheets.specs.declared.row.SheetRow.{SheetRow}
use Rattle.sheets.proofs.check.check_each.Given as goal

-- the entries still to come decide
abbrev pub invariant-loop-i : goal.invariant-loop-i
invariant-loop-i g l =
    (fault : List SheetRow → SheetRow → Option EntryFault) → Checks g.F.Fn l.check fault →
    first_wrong fault (take l.i-counter l.rows) (drop l.i-counter l.rows) ≡ first_wrong fault [] l.rows
