-- Steps for a function that empties a list and adds entries one by one.
use Rattle.std.proofs.Common.{◌≡◌, ◌≤◌, List, length, ap, arith}
use Rattle.std.proofs.lemmas.List.{length-append, length-drop}
use Rattle.entries.specs.declared.list.List.{List as EntryList}
use Rattle.entries.specs.Lists.{Filled, held, slots_of}

-- a full list: the slots are no more than the entries
pub filled_full : {E : Type 0} (slots entries : List E) (l : EntryList E) → Filled slots entries l → length (held l) ≡ length (slots_of l) → length slots ≤ length entries
filled_full slots entries l filled full =
    omega (arith, ap length filled.0, simp (length-append, length-drop) at (ap length filled.1))
