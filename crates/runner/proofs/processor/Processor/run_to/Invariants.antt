use Rattle.std.proofs.Common.{◌≡◌, ◌-◌, ◌≤◌, max, min}
use Rattle.timeline.specs.Processor.{Demands}
use Rattle.runner.specs.Levels.{last_tick}
use Rattle.runner.specs.Running.{Stands, SameTasks}
use Rattle.runner.proofs.processor.Processor.run_to.Given as goal

abbrev pub invariant-loop : goal.invariant-loop
invariant-loop l =
    (l.initial.self.tick ≤ l.self.tick) × (l.self.tick ≤ max l.initial.self.tick (min l.until last_tick))
    × (min l.until last_tick ≤ l.initial.self.tick → l.self ≡ l.initial.self) × SameTasks l.initial.self l.self × ((D : Demands) → Stands D l.initial.self → Stands D l.self)

abbrev pub decreases-loop : goal.decreases-loop
decreases-loop l = min l.until last_tick - l.self.tick
