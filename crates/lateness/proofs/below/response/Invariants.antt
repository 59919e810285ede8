use Rattle.std.proofs.Common.{◌-◌}
use Rattle.lateness.proofs.Judged.{CheckingBelow}
use Rattle.lateness.proofs.below.response.Given as goal

abbrev pub invariant-loop-request : goal.invariant-loop-request
invariant-loop-request l = CheckingBelow l.fn.members l.level l.processor l.request l.worst

abbrev pub decreases-loop-request : goal.decreases-loop-request
decreases-loop-request l = l.until - l.request
