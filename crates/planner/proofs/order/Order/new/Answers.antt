use Rattle.std.proofs.Common.{◌≡◌, ℕ, ◌<◌, length, rules}
use Rattle.std.proofs.iter.Serving.{returning}
use Rattle.short_list.specs.Items.{items_of}
use Rattle.planner.specs.Positions.{place_in}
use Rattle.planner.proofs.Positions.{own_holds, own_has}
use Rattle.planner.proofs.order.Order.new.Goals as goal

pub invariant_of-result : goal.invariant_of-result
invariant_of-result c =
    let places = items_of c.unwrap.result in
    let own : (place : ℕ) → place < length places → place_in places place ≡ place = λ place inside. search (rules, returning) in
    record { holds = own_holds places own; has = own_has places own }
