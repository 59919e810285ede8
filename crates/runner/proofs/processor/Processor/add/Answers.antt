use Rattle.std.proofs.Common.{refl, rules, arith}
use Rattle.runner.proofs.Adding.{added, told_as, same_levels}
use Rattle.runner.proofs.processor.Processor.add.Goals as goal

pub returns-clause-after : goal.returns-clause-after
returns-clause-after c =
    told_as c.push.result c.map_err.result c.map_err.ensures.variant c.push.ensures.ok c.push.ensures.full
    (λ push. added c.args.self.now _ c.args.task.figures c.args.start (omega arith) refl (search rules)) (same_levels _ _ refl)
