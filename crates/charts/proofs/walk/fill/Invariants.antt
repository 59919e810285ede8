use Rattle.entries.specs.Lists.{Refilled}
use Rattle.charts.proofs.walk.fill.Given as goal

-- the list holds what the walk has given
abbrev pub invariant-loop-entry : goal.invariant-loop-entry
invariant-loop-entry g l = Refilled l.fn.list l.yielded l.list
