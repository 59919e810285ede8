-- The first tick at or after a given one.
use Rattle.std.specs.Prelude.{ℕ, ◌-◌, ◌<◌, ◌≤◌, List, length, Some, None, Option, slice_index}

-- each of the first n ticks is before the given one
abbrev pub Before : List ℕ → ℕ → ℕ → Type 0
Before ticks tick n = (k : ℕ) → k < n → slice_index ticks k < tick

-- the place, counted from 1, of the first tick at or after the given one; none where all are before it
abbrev pub FirstAtOrAfter : List ℕ → ℕ → Option ℕ → Type 0
FirstAtOrAfter ticks tick None = Before ticks tick (length ticks)
FirstAtOrAfter ticks tick (Some place) =
    (1 ≤ place) × (place ≤ length ticks) × (tick ≤ slice_index ticks (place - 1)) × Before ticks tick (place - 1)
