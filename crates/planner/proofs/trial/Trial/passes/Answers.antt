use Rattle.std.proofs.Common.{sym, ap, ◌∙◌}
use Rattle.tasks.specs.Places.{has}
use Rattle.planner.proofs.Filling.{asked}
use Rattle.planner.proofs.Positions.{answered_below}
use Rattle.planner.proofs.trial.Trial.passes.Goals as goal

pub returns : goal.returns
returns g c =
    let judge = c.args.judge.now in
    let place = (answered_below _ _ _ _ (sym c.unwrap-place.ensures ∙ c.place_at.ensures)).1 in
    asked (g.J.Judge.meaning judge) (g.met.J.Judge.lawful judge) c.args.case.now c.rule.result
    c.args.self.now.order.now c.args.self.now.filled c.judged.result c.judged.ensures.case (c.judged.ensures.place ∙ place)
    (has c.earlier.result) (ap has c.judged.ensures.above) c.requires.whole c.requires.inside c.earlier.ensures c.rule.ensures
