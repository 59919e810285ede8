-- Slots of a slice of which the front is filled.
use Rattle.std.proofs.Common.{◌≡◌, ℕ, suc, ◌<◌, ◌≤◌, List, [], ◌∷◌, ◌++◌, length, take, drop, set, append_assoc, arith}
use Rattle.std.proofs.lemmas.List.{set_split, length_push, length-take-le}

-- an entry in the first slot that is not filled leaves those beyond
pub set_next : {E : Type 0} (slots : List E) (n : ℕ) (e : E) → n < length slots → set slots n e ≡ (take n slots ++ e ∷ []) ++ drop (length (take n slots ++ e ∷ [])) slots
set_next slots n e h =
    let within : n ≤ length slots = omega arith in
    let filled : length (take n slots ++ e ∷ []) ≡ suc n = omega (arith, length_push (take n slots) e, length-take-le n slots within) in
    rw (filled, append_assoc) (set_split slots n e h)
