-- Where an id is among rows in rising order, counted from 0.
use Rattle.std.specs.Prelude.{◌≡◌, ℕ, ◌<◌, ◌≤◌, List, Result, length, take, drop, MatchResult}
use Rattle.std.specs.List.{HoldsAt, AllByRecursion}
use Rattle.tasks.specs.declared.rows.Row.{Row}

-- the id stands there, after the smaller ones
pub record StandsAt (id : ℕ) (rows : List Row) (at : ℕ) : Type 0 where
  pub inside : at < length rows
  pub smaller : AllByRecursion (λ row. row.id < id) (take at rows)
  pub here : HoldsAt (λ row. row.id ≡ id) rows at

-- the id belongs there, between the smaller ones and the greater ones
pub record BelongsAt (id : ℕ) (rows : List Row) (at : ℕ) : Type 0 where
  pub inside : at ≤ length rows
  pub smaller : AllByRecursion (λ row. row.id < id) (take at rows)
  pub greater : AllByRecursion (λ row. id < row.id) (drop at rows)

-- where the id stands, or else where it belongs
abbrev pub Sought : ℕ → List Row → Result ℕ ℕ → Type 0
Sought id rows found = MatchResult found (StandsAt id rows) (BelongsAt id rows)
