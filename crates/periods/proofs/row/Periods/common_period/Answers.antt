use Rattle.periods.proofs.Common.{common_period_least}
use Rattle.periods.proofs.row.Periods.common_period.Goals as goal

pub returns-then-is_empty-clause-least : goal.returns-then-is_empty-clause-least
returns-then-is_empty-clause-least c = common_period_least _

pub returns-clause-least : goal.returns-clause-least
returns-clause-least c = common_period_least _
