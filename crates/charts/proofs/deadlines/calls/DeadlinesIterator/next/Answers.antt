use Rattle.std.proofs.Common.{arith}
use Rattle.charts.proofs.Dues.{skipped_on, found_on, gave_late, ends}
use Rattle.charts.proofs.deadlines.calls.DeadlinesIterator.next.Goals as goal

pub returns-in-Some-clause-steps : goal.returns-in-Some-clause-steps
returns-in-Some-clause-steps c =
    gave_late c.args.self.now c.next_here.new.self c.in-Some.late
    (found_on _ c.loop-self.self _ _ c.loop-self.invariant c.in-Some.ensures)

pub loop-self-preserved : goal.loop-self-preserved
loop-self-preserved c =
    skipped_on _ _ _ c.loop-self.invariant (skipped_on _ _ _ c.in_default.ensures.0 c.next_tick.ensures.skipped)

pub returns-clause-steps : goal.returns-clause-steps
returns-clause-steps c = ends c.args.self.now c.loop-self.self c.loop-self.invariant (omega (arith, c.tick.ensures, c.loop-self-test.false))
