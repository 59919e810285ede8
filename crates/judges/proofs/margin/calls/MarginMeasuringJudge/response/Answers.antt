use Rattle.std.proofs.Common.{rules}
use Rattle.judges.proofs.MarginRuns.{told_with_margin}
use Rattle.judges.proofs.margin.calls.MarginMeasuringJudge.response.Goals as goal

pub returns : goal.returns
returns g c =
    told_with_margin c.args.self.now.percent (g.J.Judge.meaning c.args.self.now.judge) c.args.judged c.in_ok-changed.changed c.in_ok-changed.ensures
    (g.J.MeasuringJudge.reckons c.args.self.now.judge) c.response.result (search rules)
