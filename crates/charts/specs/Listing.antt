-- Entries that fill a caller's list.
use Rattle.std.specs.Prelude.{◌≡◌, ◌<◌, ◌≤◌, List, length, Ok, Err, Result}
use Rattle.refusals.specs.declared.Refusal.{Refusal}
use Rattle.refusals.specs.declared.Refusal.TheVariants.{ListTooShort}
use Rattle.entries.specs.Lists.{Refilled, slots_of}
use Rattle.entries.specs.declared.list.List.{List as EntryList}

-- the list, over the same slice, holds these entries; refused where the slice has fewer slots, and then all stays
abbrev pub Listed : {E : Type 0} → List E → EntryList E → Result (Unit {0}) Refusal → EntryList E → Type 0
Listed entries before (Ok _) after = (length entries ≤ length (slots_of before)) × Refilled before entries after
Listed entries before (Err refusal) after = (refusal ≡ ListTooShort) × (length (slots_of before) < length entries) × (after ≡ before)

-- the same of the entries that are told of
abbrev pub Lists : {E : Type 0} → (List E → Type 0) → EntryList E → Result (Unit {0}) Refusal → EntryList E → Type 0
Lists {E} Told before r after = (entries : List E) × Told entries × Listed entries before r after
