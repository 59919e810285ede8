use Rattle.std.proofs.Common.{refl, rules, arith}
use Rattle.runner.proofs.Advance.{ran}
use Rattle.runner.proofs.processor.Processor.advance.Goals as goal

pub returns : goal.returns
returns c =
    ran c.args.self.now c.take_requests.new.self c.spend-length.new.self _ c.first_ready-runs.result _ c.soonest-soonest.result c.spend-length.result (omega arith)
    c.take_requests.ensures c.first_ready-runs.ensures (search rules) c.spend-length.ensures refl refl
