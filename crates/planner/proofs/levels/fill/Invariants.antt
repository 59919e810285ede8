use Rattle.std.proofs.Common.{◌≡◌, ℕ, ◌<◌, ◌≤◌, length}
use Rattle.judges.specs.Meaning.{tasks_of, starts_of}
use Rattle.planner.specs.Filling.{up_to}
use Rattle.planner.specs.Orders.{position_of}
use Rattle.planner.proofs.levels.fill.Given as goal

-- the order is as it was, and the places tried so far got no
abbrev pub invariant-loop-place : goal.invariant-loop-place
invariant-loop-place g l =
    (l.order ≡ l.initial.order)
    × ((place : ℕ) → l.place ≤ place → place < length (tasks_of l.case) → position_of l.initial.order place ≤ l.position →
    g.J.Judge.meaning l.judge (tasks_of l.case) (starts_of l.case) place (up_to l.initial.order l.position) → ⊥)
