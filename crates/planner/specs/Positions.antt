-- A list of places, and where a place stands in it. Positions and places count from 0.
use Rattle.std.specs.Prelude.{◌≡◌, ℕ, ◌<◌, ◌&&◌, cond, List, length, ◌==◌, nat_lt, slice_index}
use Rattle.std.specs.List.{position_or_len, swap}

-- the first position of a place
abbrev pub position_in : List ℕ → ℕ → ℕ
position_in places place = position_or_len (λ held. held == place) places

-- the place at a position
abbrev pub place_in : List ℕ → ℕ → ℕ
place_in places position = slice_index places position

-- the places at two positions change; positions past the last hold no task, and then nothing changes
abbrev pub exchanged : ℕ → ℕ → List ℕ → List ℕ
exchanged first second places =
    cond (nat_lt first (length places) && nat_lt second (length places)) (swap places first second) places

-- one leads from numbers below n to such numbers, and the other leads back
abbrev pub LeadsBack : ℕ → (ℕ → ℕ) → (ℕ → ℕ) → Type 0
LeadsBack n there back = (k : ℕ) → k < n → (there k < n) × (back (there k) ≡ k)
