use Rattle.std.proofs.Common.{ℕ, length, subst, arith}
use Rattle.judges.specs.Meaning.{tasks_of}
use Rattle.planner.specs.Filling.{FilledFrom}
use Rattle.planner.proofs.Filling.{order_levels, filled_passes}
use Rattle.planner.proofs.levels.order_for.Goals as goal

pub returns : goal.returns
returns g c =
    let judge = c.args.judge.now in
    let case = c.args.case.now in
    let order = c.loop-position.order in
    let filled = c.loop-position.invariant in
    let Filled : ℕ → Type 0 = FilledFrom (g.J.Judge.meaning judge) case order in (
      filled.count,
      order_levels (length (tasks_of case)) order filled.count,
      filled_passes (g.J.Judge.meaning judge) (g.met.J.Judge.lawful judge) case order (subst Filled (omega (arith, c.loop-position-test.false)) filled),
    )
