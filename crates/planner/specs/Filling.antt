-- Filling the positions of an order from the last to the first.
use Rattle.std.specs.Prelude.{◌≡◌, ℕ, ◌<◌, ◌≤◌, Bool, length, nat_le}
use Rattle.tasks.specs.declared.case.Case.{Case}
use Rattle.judges.specs.Meaning.{Meaning, tasks_of, starts_of}
use Rattle.planner.specs.declared.order.Order.{Order}
use Rattle.planner.specs.Orders.{NonePasses, places_of, place_at, position_of}

-- the places at the positions up to one
abbrev pub up_to : Order → ℕ → ℕ → Bool
up_to order position place = nat_le (position_of order place) position

-- the place at a position gets yes with the places up to there above it; the judged place itself never counts as above
abbrev pub PassesAt : Meaning → Case → Order → ℕ → Type 0
PassesAt M case order position = M (tasks_of case) (starts_of case) (place_at order position) (up_to order position)

-- the positions from one on are filled
pub record FilledFrom (M : Meaning) (case : Case) (order : Order) (from : ℕ) : Type 0 where
  pub count : length (places_of order) ≡ length (tasks_of case)
  pub passes : (position : ℕ) → from ≤ position → position < length (tasks_of case) → PassesAt M case order position

-- no order passes with the starts of a case
abbrev pub NonePassesIn : Meaning → Case → Type 0
NonePassesIn M case = NonePasses M (tasks_of case) (starts_of case)
