use Rattle.std.proofs.Common.{rules}
use Rattle.tasks.proofs.Found.{known_or_unknown}
use Rattle.tasks.proofs.table.Table.find.Goals as goal

pub returns : goal.returns
returns c = known_or_unknown _ _ _ _ c.in_ok-seek.ensures.0 c.in_ok-seek.ensures.1 c.map_err.ensures.cases (λ at why k. search rules)
