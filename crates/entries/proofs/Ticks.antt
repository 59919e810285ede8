-- The first tick of a list of entries that is not before a given one.
use Rattle.std.proofs.Common.{ℕ, ◌+◌, ◌<◌, ◌≤◌, List, [], ◌∷◌, map, length, get_or, Some, None, MatchOption, Option, sym, subst, add-sub_cancel, arith}
use lib.ListN.{length-map}
use Rattle.std.specs.List.{AllWithin, HoldsAt}
use Rattle.std.specs.Option.{option_map}
use Rattle.std.proofs.lemmas.List.{get_or-map}
use Rattle.entries.specs.Ticks.{FirstAtOrAfter}

-- what holds of the tick of the entry at an index holds of the tick there
at_tick :
    {E : Type 0} (P : ℕ → Type 0) (when : E → ℕ) (entries : List E) (i : ℕ) → i < length entries → HoldsAt (λ e. P (when e)) entries i →
    P (get_or (map when entries) i 0)
at_tick P when [] i within here = absurd (omega arith)
at_tick P when (e ∷ entries) i within here = subst P (sym (get_or-map when (e ∷ entries) i e 0 within)) (here e)

-- an index counts from 0, and a place from 1
pub placed :
    {E : Type 0} (when : E → ℕ) (entries : List E) (tick : ℕ) (found : Option ℕ) →
    MatchOption found (AllWithin (λ e. when e < tick) entries 0 (length entries))
    (λ i. (i < length entries) × HoldsAt (λ e. tick ≤ when e) entries i × AllWithin (λ e. when e < tick) entries 0 i) →
    FirstAtOrAfter (map when entries) tick (option_map (λ i. i + 1) found)
placed when entries tick None before =
    let long = length-map entries when in
    λ k below. at_tick (λ t. t < tick) when entries k (omega arith) (λ d. before k d (omega arith) (omega arith))
placed when entries tick (Some i) (within, here, before) =
    let long = length-map entries when in (
      omega arith,
      omega arith,
      rw add-sub_cancel (at_tick (λ t. tick ≤ t) when entries i within here),
      λ k below. at_tick (λ t. t < tick) when entries k (omega arith) (λ d. before k d (omega arith) (omega arith)),
    )
