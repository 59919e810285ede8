use Rattle.std.proofs.Common.{subst}
use Rattle.periods.specs.Listed.{OneListedChoice}
use Rattle.tasks.proofs.table.Table.choices.Goals as goal

pub returns-clause-one : goal.returns-clause-one
returns-clause-one c = subst OneListedChoice c.periods.ensures c.choices.ensures.one
