use Rattle.std.proofs.Common.{◌≤◌}
use Rattle.periods.specs.Multiples.{longest_common_period}
use Rattle.periods.proofs.Places.{MultipleSoFar}
use Rattle.periods.proofs.row.calls.common_multiple.Given as goal

abbrev pub invariant-loop-period : goal.invariant-loop-period
invariant-loop-period l = MultipleSoFar l.periods l.period-index l.common × (l.common ≤ longest_common_period)
