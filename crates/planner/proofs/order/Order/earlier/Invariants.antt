use Rattle.std.proofs.Common.{◌≡◌, ℕ, ◌<◌, ltb, length}
use Rattle.tasks.specs.Places.{has}
use Rattle.planner.specs.Orders.{places_of, position_of}
use Rattle.planner.proofs.order.Order.earlier.Given as goal

abbrev pub invariant-loop-place : goal.invariant-loop-place
invariant-loop-place l =
    (place : ℕ) → place < length (places_of l.self) → has l.earlier place ≡ ltb (position_of l.self place) l.place-index
