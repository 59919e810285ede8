use Rattle.std.proofs.Common.{rules}
use Rattle.std.proofs.lemmas.Option.{MatchOption-at_none, MatchOption-at_some}
use Rattle.judges.proofs.MarginRuns.{ruled_with_margin}
use Rattle.judges.proofs.margin.calls.MarginJudge.rule.Goals as goal

pub returns : goal.returns
returns g c =
    ruled_with_margin c.args.self.now.percent (g.J.Judge.meaning c.args.self.now.judge) c.args.judged c.stretched_case.result
    c.is_some_and.result c.stretched_case.ensures (λ none. MatchOption-at_none _ _ none c.is_some_and.ensures)
    (λ changed some. let said = MatchOption-at_some _ _ changed some c.is_some_and.ensures in search rules)
