-- A task on a level of another processor.
use Rattle.std.specs.Prelude.{◌≡◌, ℕ, List}
use Rattle.tasks.specs.declared.figures.Figures.{Figures}
use Rattle.timeline.specs.Processor.{Demands, done}
use Rattle.timeline.specs.Timeline.{demanded, done_by}

-- the level demands what the task at place q does, and is served as that task is on its own level
pub record ServedAs (tasks : List Figures) (starts levels : ℕ → ℕ) (q : ℕ) (D : Demands) (level : ℕ) : Type 0 where
  pub own : (tick : ℕ) → D level tick ≡ demanded tasks starts q tick
  pub same : (tick : ℕ) → done D level tick ≡ done_by tasks starts levels q tick
