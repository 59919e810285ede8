use Rattle.planner.specs.Filling.{FilledFrom}
use Rattle.planner.proofs.levels.order_for.Given as goal

abbrev pub invariant-loop-position : goal.invariant-loop-position
invariant-loop-position g l = FilledFrom (g.J.Judge.meaning l.judge) l.case l.order l.position
