use Rattle.std.proofs.Common.{rules}
use Rattle.lateness.proofs.Stops.{ran_here, ran_other}
use Rattle.lateness.proofs.running.last_run.Goals as goal

pub loop-span-preserved-then-eq : goal.loop-span-preserved-then-eq
loop-span-preserved-then-eq c =
    (ran_here c.args.processor.now c.args.level c.loop-span.stopped c.loop-span.processor _ _ _ c.loop-span.invariant.0 c.in-Some.ensures _ c.tick.ensures (search rules), search rules)

pub loop-span-preserved : goal.loop-span-preserved
loop-span-preserved c =
    (ran_other c.args.processor.now c.args.level c.loop-span.stopped c.loop-span.processor _ _ _ c.loop-span.invariant.0 c.in-Some.ensures (search rules), search rules)
