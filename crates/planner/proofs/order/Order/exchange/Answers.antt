use Rattle.planner.specs.Orders.{places_of}
use Rattle.planner.proofs.Positions.{kept_one_to_one}
use Rattle.planner.proofs.order.Order.exchange.Goals as goal

pub invariant_of-self : goal.invariant_of-self
invariant_of-self c =
    let order = c.args.self.now in
    let kept = kept_one_to_one c.args.first c.args.second (places_of order) _ c.swap.ensures.items order.holds order.has in
    record { holds = kept.0; has = kept.1 }
