use Rattle.std.proofs.Common.{◌+◌, ◌-◌, sym, ap, ◌∙◌, arith, rules}
use Rattle.lateness.proofs.Judged.{CheckingBelow, Due, overloaded_late, all_checked, late_unrun, late_below, stops_after, next_checking}
use Rattle.lateness.proofs.below.response.Goals as goal
use Rattle.lateness.proofs.below.response.Goals.{After-last_run, After-max-worst}

-- the deadline of a request is reached
due :
    (c : After-last_run) →
    Due c.args.members (c.count-level.result - 1) c.loop-request.processor c.loop-request.request c.loop-request.worst
    c.last_run.result c.last_run.new.processor
due c =
    let deadline = c.from.ensures ∙ ap (λ f. f.deadline) (c.figures-figures.ensures.value ∙ sym c.own-timed.ensures.2) in
    record {
      checking = c.loop-request.invariant;
      ran = c.last_run.ensures.ran;
      there = c.last_run.ensures.tick ∙ ap (λ n. c.loop-request.request + n) deadline;
    }

pub returns-then-load-period : goal.returns-then-load-period
returns-then-load-period c = overloaded_late c.args.members _ c.common_period-period.ensures (omega (arith, c.load.ensures))

pub returns-in_err-stopped : goal.returns-in_err-stopped
returns-in_err-stopped c =
    let late = late_unrun _ _ _ _ _ _ _ (due (goal.at.returns-in_err-stopped c).After-last_run) c.in_err-stopped.was in search rules

pub returns-then-left-gt0 : goal.returns-then-left-gt0
returns-then-left-gt0 c =
    late_below _ _ _ _ _ _ _ (due (goal.at.returns-then-left-gt0 c).After-last_run) (omega (arith, c.left.ensures, c.if-left-gt0.true))

pub overflow_sub-stopped : goal.overflow_sub-stopped
overflow_sub-stopped c =
    stops_after _ _ _ _ _ _ _ (due (goal.at.overflow_sub-stopped c).After-last_run) (omega (arith, c.left.ensures, c.if-left-gt0.false)) _ c.in_ok-stopped.was

-- the next request is due
next :
    (c : After-max-worst) →
    Due c.args.members (c.count-level.result - 1) c.loop-request.processor c.loop-request.request c.loop-request.worst
    c.last_run.result c.last_run.new.processor →
    CheckingBelow c.args.members (c.count-level.result - 1) c.last_run.new.processor
    (c.loop-request.request + c.from-request-step.result) c.max-worst.result
next c due =
    next_checking _ _ _ _ _ _ _ due (omega (arith, c.left.ensures, c.if-left-gt0.false)) _ c.in_ok-stopped.was _ _
    (c.from-request-step.ensures ∙ ap (λ f. f.period) (c.figures-figures.ensures.value ∙ sym c.own-timed.ensures.2)) c.max-worst.ensures

pub loop-request-preserved : goal.loop-request-preserved
loop-request-preserved c = next (goal.at.loop-request-preserved c).After-max-worst (due (goal.at.loop-request-preserved c).After-last_run)

pub returns-else-load-period : goal.returns-else-load-period
returns-else-load-period c =
    all_checked c.args.members _ c.common_period-period.ensures _ c.latest_start.ensures (omega (arith, c.load.ensures)) _ _ _ _ c.loop-request.invariant (omega arith)

pub returns-else-left-gt0 : goal.returns-else-left-gt0
returns-else-left-gt0 c =
    all_checked c.args.members _ c.common_period-period.ensures _ c.latest_start.ensures (omega (arith, c.load.ensures)) _ _ _ _
    (next (goal.at.returns-else-left-gt0 c).After-max-worst (due (goal.at.returns-else-left-gt0 c).After-last_run)) (omega arith)
