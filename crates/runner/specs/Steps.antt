-- The steps in which a processor advances, each by what it changes.
use Rattle.std.specs.Prelude.{◌≡◌, ℕ, ◌<◌, ◌≤◌, min, ◌⊎◌, List, map, length, Some, None, Option, slice_index_or, slice_set}
use Rattle.runner.specs.declared.processor.Processor.{Processor}
use Rattle.runner.specs.declared.level.Level.{Level}
use Rattle.runner.specs.Levels.{requested_at, units_spent}
use Rattle.runner.specs.Processor.{levels_of, count_of, level_on, left_on, no_task}

-- each level whose request falls at this tick has its units too, and awaits the next one
pub record RequestsTaken (p q : Processor) : Type 0 where
  pub tick : q.tick ≡ p.tick
  pub levels : levels_of q ≡ map (requested_at p.tick) (levels_of p)

-- the highest level that has a unit
pub record FirstReady (p : Processor) (level : ℕ) : Type 0 where
  pub known : level < count_of p
  pub ready : 0 < left_on p level
  pub first : (l : ℕ) → l < level → left_on p l ≡ 0

-- the level that is to run: the highest with a unit, or none where none has one
abbrev pub ToRun : Processor → Option ℕ → Type 0
ToRun p (Some level) = FirstReady p level
ToRun p None = (l : ℕ) → left_on p l ≡ 0

-- the soonest of the next requests, or `end` where it comes first
pub record Soonest (levels : List Level) (end tick : ℕ) : Type 0 where
  pub before_end : tick ≤ end
  pub before_next : (l : ℕ) → l < length levels → tick ≤ (slice_index_or levels l no_task).next
  pub reached : (tick ≡ end) ⊎ ((l : ℕ) × (l < length levels) × ((slice_index_or levels l no_task).next ≡ tick))

-- A level runs in each of so many ticks, as long as it has units: in n of them.
pub record UnitsSpent (p : Processor) (level ticks n : ℕ) (q : Processor) : Type 0 where
  pub ticks_run : n ≡ min ticks (left_on p level)
  pub tick : q.tick ≡ p.tick
  pub levels : levels_of q ≡ slice_set (levels_of p) level (units_spent n (level_on p level))

-- the same of the level that is to run; with none to run, all the ticks pass
abbrev pub Spent : Processor → Option ℕ → ℕ → ℕ → Processor → Type 0
Spent p (Some level) ticks n q = UnitsSpent p level ticks n q
Spent p None ticks n q = (n ≡ ticks) × (q ≡ p)
