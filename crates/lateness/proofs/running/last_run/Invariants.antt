use Rattle.std.proofs.Common.{◌-◌, ◌≤◌}
use Rattle.lateness.specs.Running.{RanOn}
use Rattle.lateness.proofs.running.last_run.Given as goal

abbrev pub invariant-loop-span : goal.invariant-loop-span
invariant-loop-span l = RanOn l.initial.processor l.level l.stopped l.processor × (l.processor.tick ≤ l.until)

abbrev pub decreases-loop-span : goal.decreases-loop-span
decreases-loop-span l = l.until - l.processor.tick
