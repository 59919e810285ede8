use Rattle.std.proofs.Common.{◌+◌, ◌-◌}
use Rattle.charts.specs.Dues.{Skipped}
use Rattle.charts.proofs.deadlines.calls.DeadlinesIterator.next.Given as goal

-- the ticks passed had no late request
abbrev pub invariant-loop-self : goal.invariant-loop-self
invariant-loop-self l = Skipped l.initial.self l.self

abbrev pub decreases-loop-self : goal.decreases-loop-self
decreases-loop-self l = l.self.last + 1 - l.self.running.processor.tick
