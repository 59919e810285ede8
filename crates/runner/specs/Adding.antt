-- Why a processor takes no further task.
use Rattle.std.specs.Prelude.{ℕ, cond, Some, None, Option, nat_lt}
use Rattle.periods.specs.Multiples.{most_tasks}
use Rattle.runner.specs.declared.processor.Processor.{Processor}
use Rattle.runner.specs.declared.not_taken.NotTaken.{NotTaken}
use Rattle.runner.specs.declared.not_taken.NotTaken.TheVariants.{HasRun, LateStart, NoLevel}
use Rattle.runner.specs.Levels.{last_tick}
use Rattle.runner.specs.Processor.{count_of}

-- the reason, in the order in which it is told: it has run, the start is too late, no level is free
abbrev pub not_taken : Processor → ℕ → Option NotTaken
not_taken p start =
    cond (nat_lt 0 p.tick) (Some HasRun)
    (cond (nat_lt last_tick start) (Some LateStart) (cond (nat_lt (count_of p) most_tasks) None (Some NoLevel)))
