use Rattle.lateness.proofs.Ranked.{OrderedTo}
use Rattle.lateness.proofs.order.ordered.Given as goal

abbrev pub invariant-loop-level : goal.invariant-loop-level
invariant-loop-level l = OrderedTo l.case l.levels l.level l.processor
