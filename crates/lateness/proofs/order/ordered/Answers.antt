use Rattle.std.proofs.Common.{◌≡◌, ◌+◌, length, ◌∙◌, subst, arith, rules}
use Rattle.tasks.proofs.Placed.{length-rows}
use Rattle.tasks.specs.Cases.{tasks_of, TaskAt}
use Rattle.lateness.specs.Ordered.{IsOrder}
use Rattle.lateness.proofs.Ranked.{OrderedTo, ordered_more, ordered_all}
use Rattle.lateness.proofs.order.ordered.Goals as goal
use Rattle.lateness.proofs.order.ordered.Goals.{After-put}

pub returns-in_err-place : goal.returns-in_err-place
returns-in_err-place c =
    let none : IsOrder c.args.case.now c.args.levels.now → ⊥ =
    λ order. let each = order.each c.loop-level.level (omega arith) (omega (arith, c.if-levels-count.false)) in c.in_err-place.ensures each.0 each.1 in
    search rules

same_length : (c : After-put) → length c.args.levels.now ≡ length (tasks_of c.args.case.now)
same_length c = c.if-levels-count.false ∙ length-rows c.args.case.now _ c.rows-count.ensures.value

-- one more level has its task
more : (c : After-put) → OrderedTo c.args.case.now c.args.levels.now (c.loop-level.level + 1) c.put.new.processor
more c =
    ordered_more c.args.case.now c.args.levels.now c.loop-level.level c.loop-level.processor c.put.new.processor c.in_ok-place.place
    c.unwrap.result c.loop-level.invariant (same_length c) c.in_ok-place.ensures
    (subst (TaskAt c.args.case.now c.in_ok-place.place) c.unwrap.ensures c.task.ensures) c.put.ensures

pub loop-level-preserved : goal.loop-level-preserved
loop-level-preserved c = more (goal.at.loop-level-preserved c).After-put

pub returns-in_ok-place : goal.returns-in_ok-place
returns-in_ok-place c =
    let put = (goal.at.returns-in_ok-place c).After-put in
    ordered_all c.args.case.now c.args.levels.now (c.within.ensures.0 c.if-not-within.false) c.loop-level.level c.put.new.processor (more put)
    (omega (arith, c.if-levels-count.false)) (same_length put)
