use Rattle.std.proofs.Common.{sym, subst}
use Rattle.tasks.specs.declared.judged.Judged.{Judged}
use Rattle.tasks.proofs.Placed.{fair_task}
use Rattle.judges.specs.Meaning.{Rules, MeaningAt}
use Rattle.judges.specs.Tick.{InTime}
use Rattle.judges.specs.WorstStart.{InTimeAtWorst}
use Rattle.judges.specs.WorstStartLaws.{worst_start_lawful}
use Rattle.judges.proofs.tick.TickJudge.rule.Goals as goal

-- what is in time at the worst starts is in time
in_time_at_worst : (judged : Judged) → MeaningAt InTimeAtWorst judged → MeaningAt InTime judged
in_time_at_worst judged worst = (
  worst_start_lawful.placed _ _ _ _ worst,
  worst_start_lawful.sound _ _ _ _ (λ q inside. fair_task judged.case.now q inside _) worst,
)

pub returns-then-rule : goal.returns-then-rule
returns-then-rule c =
    subst (λ b. Rules b (MeaningAt InTime c.args.judged)) (sym c.if-rule.true) (in_time_at_worst c.args.judged c.if-rule.ensures)
