-- The bytes of a sheet, read and searched for late requests in one call.
use Rattle.std.specs.Prelude.{◌≡◌, ℕ, List, Some, None, Ok, Err, Result}
use Rattle.refusals.specs.Numbers.{refusal_number}
use Rattle.entries.specs.declared.LateRequest.{LateRequest}
use Rattle.entries.specs.declared.list.List.{List as EntryList}
use Rattle.sheets.specs.Bytes.{entries_in, sheet_fault}
use Rattle.sheets.specs.Faults.{number_of}
use Rattle.charts.specs.LateRequests.{InOrder, IsLate}
use Rattle.charts.specs.Listing.{Lists}
use Rattle.charts.specs.declared.inspection.InspectRefusal.{InspectRefusal}
use Rattle.charts.specs.declared.inspection.InspectRefusal.TheVariants.{FaultySheet, RefusedList}

-- the number of the sheet's fault, or of the refusal of the list
abbrev pub inspect_number : InspectRefusal → ℕ
inspect_number (FaultySheet fault) = number_of fault
inspect_number (RefusedList refusal) = refusal_number refusal

-- the first fault of the bytes, which leaves all as it was; only where there is none, the late requests of their rows
-- are listed, or the list is too short for them
abbrev pub Inspected : List ℕ → EntryList LateRequest → Result (Unit {0}) InspectRefusal → EntryList LateRequest → Type 0
Inspected bytes before (Ok done) after = (sheet_fault bytes ≡ None) × Lists (InOrder (IsLate (entries_in bytes))) before (Ok done) after
Inspected bytes before (Err (FaultySheet fault)) after = (sheet_fault bytes ≡ Some fault) × (after ≡ before)
Inspected bytes before (Err (RefusedList refusal)) after =
    (sheet_fault bytes ≡ None) × Lists (InOrder (IsLate (entries_in bytes))) before (Err refusal) after
