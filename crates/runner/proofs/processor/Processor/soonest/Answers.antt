use Rattle.std.proofs.Common.{rules}
use Rattle.runner.proofs.Steps.{soonest_is}
use Rattle.runner.proofs.processor.Processor.soonest.Goals as goal

pub returns : goal.returns
returns c = soonest_is _ _ _ (search rules)
