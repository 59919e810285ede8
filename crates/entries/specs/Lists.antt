-- A list over a slice: what it holds, and what its calls make of the slice.
use Rattle.std.specs.Prelude.{◌≡◌, ℕ, ◌<◌, ◌≤◌, List, [], ◌∷◌, ◌++◌, length, take, drop, Ok, Err, Result}
use Rattle.std.specs.Borrow.{GName}
use Rattle.refusals.specs.declared.Refusal.{Refusal}
use Rattle.refusals.specs.declared.Refusal.TheVariants.{ListTooShort}
use Rattle.entries.specs.declared.list.List.{List as EntryList}

-- which slice the list was made over
abbrev pub slice_of : {E : Type 0} → EntryList E → GName
slice_of l = l.slots.ghost_name

-- all its slots
abbrev pub slots_of : {E : Type 0} → EntryList E → List E
slots_of l = l.slots.now

-- the entries of the list: the slots that it has filled, from the front
abbrev pub held : {E : Type 0} → EntryList E → List E
held l = take l.len (slots_of l)

-- over slots with this former content: the list holds these entries, and the slots beyond them keep theirs
abbrev pub Filled : {E : Type 0} → List E → List E → EntryList E → Type 0
Filled slots entries l = (held l ≡ entries) × (slots_of l ≡ entries ++ drop (length entries) slots)

-- the list over the same slice, and of its slots only those of these entries are written
abbrev pub Refilled : {E : Type 0} → EntryList E → List E → EntryList E → Type 0
Refilled l entries l' = Filled (slots_of l) entries l' × (slice_of l' ≡ slice_of l)

-- one entry more, in the list over the same slice; refused where every slot is filled, and then all stays
abbrev pub Added : {E : Type 0} → EntryList E → E → Result (Unit {0}) Refusal → EntryList E → Type 0
Added l e (Ok _) l' = (length (held l) < length (slots_of l)) × Refilled l (held l ++ e ∷ []) l'
Added l e (Err refusal) l' = (refusal ≡ ListTooShort) × (length (held l) ≡ length (slots_of l)) × (l' ≡ l)

-- emptied for so many entries, over the same slice; refused where the slice has fewer slots, and then all stays
abbrev pub EmptiedFor : {E : Type 0} → EntryList E → ℕ → Result (Unit {0}) Refusal → EntryList E → Type 0
EmptiedFor l count (Ok _) l' = (count ≤ length (slots_of l)) × Refilled l [] l'
EmptiedFor l count (Err refusal) l' = (refusal ≡ ListTooShort) × (length (slots_of l) < count) × (l' ≡ l)
