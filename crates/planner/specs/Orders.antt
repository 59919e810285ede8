-- Orders of tasks, and when one passes a judge.
use Rattle.std.specs.Prelude.{◌≡◌, ℕ, ◌+◌, ◌<◌, ◌≤◌, List, length, Some, None, Option, nat_lt}
use Rattle.short_list.specs.Items.{items_of, Swapped}
use Rattle.tasks.specs.declared.case.Case.{Case}
use Rattle.tasks.specs.declared.figures.Figures.{Figures}
use Rattle.judges.specs.Meaning.{Meaning, tasks_of, starts_of}
use Rattle.planner.specs.declared.order.Order.{Order}
use Rattle.planner.specs.Positions.{place_in, position_in}

-- Levels of the places below n: each from 1, the highest priority, to n, and no two alike.
pub record Levels (n : ℕ) (levels : ℕ → ℕ) : Type 0 where
  pub least : (place : ℕ) → place < n → 1 ≤ levels place
  pub most : (place : ℕ) → place < n → levels place ≤ n
  pub apart : (place other : ℕ) → place < n → other < n → levels place ≡ levels other → place ≡ other

-- each task gets yes with exactly the tasks of smaller level above it
abbrev pub Passes : Meaning → List Figures → (ℕ → ℕ) → (ℕ → ℕ) → Type 0
Passes M tasks starts levels =
    (place : ℕ) → place < length tasks → M tasks starts place (λ other. nat_lt (levels other) (levels place))

-- an order of the tasks that passes with these starts
pub record PassingOrder (M : Meaning) (tasks : List Figures) (starts levels : ℕ → ℕ) : Type 0 where
  pub order : Levels (length tasks) levels
  pub passes : Passes M tasks starts levels

-- no order passes with these starts
abbrev pub NonePasses : Meaning → List Figures → (ℕ → ℕ) → Type 0
NonePasses M tasks starts = (levels : ℕ → ℕ) → Levels (length tasks) levels → Passes M tasks starts levels → ⊥

-- an order as a value: its places, from the highest priority down
abbrev pub places_of : Order → List ℕ
places_of order = items_of order.places

-- the place at a position, the position of a place, and its level, the next number
abbrev pub place_at : Order → ℕ → ℕ
place_at order position = place_in (places_of order) position

abbrev pub position_of : Order → ℕ → ℕ
position_of order place = position_in (places_of order) place

abbrev pub level_of : Order → ℕ → ℕ
level_of order place = position_of order place + 1

-- The places at two positions change, in the order as a whole: a second exchange of the same positions gives the former
-- value. Positions past the last hold no task, and then nothing changes.
abbrev pub Exchanged : ℕ → ℕ → Order → Order → Type 0
Exchanged first second before after = Swapped first second before.places after.places

-- an order that passes with the starts of a case, or none does
abbrev pub Ordered : Meaning → Case → Option Order → Type 0
Ordered M case (Some order) =
    (length (places_of order) ≡ length (tasks_of case)) × Levels (length (tasks_of case)) (level_of order)
    × Passes M (tasks_of case) (starts_of case) (level_of order)
Ordered M case None = NonePasses M (tasks_of case) (starts_of case)
