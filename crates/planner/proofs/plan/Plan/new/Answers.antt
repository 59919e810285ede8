use Rattle.std.proofs.Common.{ℕ, map, ap, ◌∙◌, subst, rules}
use Rattle.std.proofs.iter.runs.Sources.{range_runs}
use Rattle.std.specs.Iterator.Runs.{ItemsCountUp}
use Rattle.periods.specs.Listed.{start_of}
use Rattle.short_list.proofs.Collected.{collected, counted_up}
use Rattle.planner.specs.Orders.{level_of}
use Rattle.planner.specs.Plans.{given_to}
use Rattle.planner.specs.declared.plan.Assignment.{Assignment}
use Rattle.planner.proofs.plan.Plan.new.Goals as goal

pub returns : goal.returns
returns c =
    let order = c.args.order.now in
    let of : ℕ → Assignment = λ place. record { start = start_of c.args.starts place; level = level_of order place } in
    let made = collected _ _ of (λ place r f' k. search rules) c.unwrap.ensures c.from_iter.ensures.all c.map-given.ensures.runs in
    let counts = subst (λ range. ItemsCountUp made.0 range.start range.end) made.1 (range_runs made.0 made.0.seen) in
    made.3 ∙ ap (map of) (counted_up made.0 c.count.result made.2 counts) ∙ ap (given_to c.args.starts order) c.count.ensures.value
