use Rattle.planner.proofs.Exchanges.{exchange_ends}
use Rattle.planner.proofs.trial.Trial.drop.Goals as goal

pub returns : goal.returns
returns c = λ former there. exchange_ends c.args.self.tried c.args.self.filled former c.args.self.order.now c.exchange.new.self there c.exchange.ensures
