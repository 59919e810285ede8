use Rattle.std.proofs.Common.{inl, inr, arith}
use Rattle.charts.proofs.Owed.{none_due, one_due}
use Rattle.charts.proofs.deadlines.calls.request_due.Goals as goal

pub returns-then-tick-first : goal.returns-then-tick-first
returns-then-tick-first c =
    none_due c.args.row c.args.tick _ _ _ (omega arith) c.from-period.ensures c.from-deadline.ensures
    (elim c.then-tick-first.branch [
      | goal.then-tick-first-via-then-tick-first w ↦ inl w.if-tick-first.true
      | goal.then-tick-first-via-else-tick-first+then-tick-first-ne0 w ↦ inr (w.if-tick-first.false, w.if-tick-first-ne0.true)
    ])

pub returns : goal.returns
returns c =
    one_due c.args.row c.args.tick _ _ _ (omega arith) c.from-period.ensures c.from-deadline.ensures c.if-tick-first.false c.if-tick-first-ne0.false
