-- What a level does while a processor runs on.
use Rattle.std.specs.Prelude.{◌≡◌, ℕ, ◌<◌, ◌≤◌, Some, None, Option}
use Rattle.timeline.specs.Processor.{Demands, done}
use Rattle.runner.specs.declared.processor.Processor.{Processor}
use Rattle.runner.specs.Running.{Stands, SameTasks}

-- the first tick, past one tick, by which a level has done what it does before another tick
pub record Stopped (D : Demands) (level from until tick : ℕ) : Type 0 where
  pub after : from < tick
  pub before : tick ≤ until
  pub all : done D level tick ≡ done D level until
  pub first : (earlier : ℕ) → from ≤ earlier → done D level until ≤ done D level earlier → tick ≤ earlier

-- the tick at which a level last stopped running from one tick to another; none where it did not run
abbrev pub LastRun : Demands → ℕ → ℕ → ℕ → Option ℕ → Type 0
LastRun D level from until (Some tick) = Stopped D level from until tick
LastRun D level from until None = done D level until ≡ done D level from

-- a processor ran on from p to q, and the level last ran up to a tick, if it ran
pub record RanOn (p : Processor) (level : ℕ) (last : Option ℕ) (q : Processor) : Type 0 where
  pub tasks : SameTasks p q
  pub later : p.tick ≤ q.tick
  pub stands : (D : Demands) → Stands D p → Stands D q
  pub stopped : (D : Demands) → Stands D p → LastRun D level p.tick q.tick last
