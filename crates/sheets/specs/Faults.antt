-- What can be wrong with a sheet: the number, the layer, the place and the cause of every fault.
use Rattle.std.specs.Prelude.{ℕ, cond, Some, None, Option, nat_le}
use Rattle.refusals.specs.declared.TaskFault.{TaskFault}
use Rattle.sheets.specs.declared.fault.EntryFault.{EntryFault}
use Rattle.sheets.specs.declared.fault.EntryFault.TheVariants.{UnsortedId, Figures, LateStart, WrongLevel}
use Rattle.sheets.specs.declared.fault.SheetFault.{SheetFault}
use Rattle.sheets.specs.declared.fault.SheetFault.TheVariants.{NoHeader, WrongCount, WrongLength, Entry, LongCommonPeriod, RefusedLevel}
use Rattle.sheets.specs.declared.fault.Layer.{Layer}
use Rattle.sheets.specs.declared.fault.Layer.TheVariants.{Bytes, Entries, Order, Judge}

-- an id that is 0 or not above the one before; unfair figures; a start that is not below its period;
-- a level that is 0, above the number of entries or that of an earlier entry
abbrev pub entry_number : EntryFault → ℕ
entry_number UnsortedId = 43
entry_number (Figures fault) = 44
entry_number LateStart = 45
entry_number WrongLevel = 46

-- fewer than four bytes; no task or more than eight; a wrong length; a wrong entry;
-- a common period that is too long; a level that the judge refuses
abbrev pub number_of : SheetFault → ℕ
number_of NoHeader = 40
number_of WrongCount = 41
number_of WrongLength = 42
number_of (Entry wrong) = entry_number wrong.fault
number_of LongCommonPeriod = 47
number_of (RefusedLevel level) = 48

-- the layer to which a number belongs
abbrev pub layer_of : ℕ → Layer
layer_of number = cond (nat_le number 42) Bytes (cond (nat_le number 45) Entries (cond (nat_le number 47) Order Judge))

-- the wrong entry, counted from 1, or the refused level, or else 0
abbrev pub place_of : SheetFault → ℕ
place_of NoHeader = 0
place_of WrongCount = 0
place_of WrongLength = 0
place_of (Entry wrong) = wrong.place
place_of LongCommonPeriod = 0
place_of (RefusedLevel level) = level

-- what is wrong with the figures, where these are the fault
abbrev pub entry_cause : EntryFault → Option TaskFault
entry_cause UnsortedId = None
entry_cause (Figures fault) = Some fault
entry_cause LateStart = None
entry_cause WrongLevel = None

abbrev pub cause_of : SheetFault → Option TaskFault
cause_of NoHeader = None
cause_of WrongCount = None
cause_of WrongLength = None
cause_of (Entry wrong) = entry_cause wrong.fault
cause_of LongCommonPeriod = None
cause_of (RefusedLevel level) = None
