use Rattle.std.proofs.Common.{◌+◌, sym, subst, arith}
use Rattle.charts.specs.Walks.{Gives, Gave}
use Rattle.charts.specs.Windows.{ChartAhead, Went}
use Rattle.charts.proofs.Windows.{went_on, gave_bar, none_ahead}
use Rattle.charts.proofs.bars.calls.BarsIterator.next.Goals as goal

pub returns-in_err-run-clause-steps : goal.returns-in_err-run-clause-steps
returns-in_err-run-clause-steps c =
    let end = c.in_err-run.ensures.0 in
    subst (λ r. Gives ChartAhead c.args.self.now r c.next_run.new.self) (sym c.from_residual.ensures)
    (end, none_ahead c.args.self.now end)

pub loop-more-preserved : goal.loop-more-preserved
loop-more-preserved c =
    let inv = c.loop-more.invariant in
    let more = c.in-Some.ensures.1 in
    (inv.0 + c.in-Some.more, omega (arith, inv.1), went_on c.next_run.new.self c.loop-more.self c.more_of.new.self c.in_ok-run.run'.id inv.0 c.in-Some.more inv.2 more)

pub returns-clause-steps : goal.returns-clause-steps
returns-clause-steps c =
    let w = c.args.self.now in
    let inv = c.loop-more.invariant in
    let first = c.in_ok-run.ensures in
    let stays = c.in_default.ensures in
    let id = c.in_ok-run.run'.id in
    let run : Went w id c.loop-more.length c.loop-more.self =
    subst (λ n. Went w id n c.loop-more.self) (sym inv.1) (went_on w c.next_run.new.self c.loop-more.self id c.in_ok-run.run'.length inv.0 first.1 inv.2) in
    subst (Gave ChartAhead w _) (sym stays.0) (gave_bar w _ _ c.tick-first.ensures (omega (arith, first.0, inv.1)) run stays.1)
