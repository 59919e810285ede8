use Rattle.std.proofs.Common.{◌+◌, ◌-◌}
use Rattle.tasks.specs.Places.{has}
use Rattle.tasks.specs.Cases.{tasks_of}
use Rattle.judges.proofs.WorstStartRuns.{Rising}
use Rattle.judges.proofs.worst_start.WorstStartMeasuringJudge.response.Given as goal

abbrev pub invariant-loop-ticks : goal.invariant-loop-ticks
invariant-loop-ticks l = Rising (tasks_of l.judged.case.now) l.judged.place (has l.judged.above.now) l.ticks

abbrev pub decreases-loop-ticks : goal.decreases-loop-ticks
decreases-loop-ticks l = l.deadline + 1 - l.ticks
