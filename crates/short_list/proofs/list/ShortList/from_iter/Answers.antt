use Rattle.std.proofs.Common.{◌<◌, ◌≤◌, ◌∙◌, arith, length, refl, rules, sym}
use Rattle.std.proofs.iter.SoFar.{exit_by, turn_by}
use Rattle.std.specs.Iterator.Runs.{SomeRun}
use Rattle.short_list.proofs.list.ShortList.from_iter.Goals as goal

pub returns-in_err-push-clause-full : goal.returns-in_err-push-clause-full
returns-in_err-push-clause-full g c =
    let run = turn_by g.I.Iterator.next_gives (c.loop-item.yielded, c.loop-item.yielded_by) _ _ c.in-Some.ensures.steps refl in
    let filled : g.row.N ≤ length c.loop-item.yielded = search rules in
    let more : SomeRun g.I.Iterator.next_gives c.args.items (λ run. g.row.N < run.len) = (run.0, run.1 ∙ c.into_iter-item-iterator.ensures.into_iter_gives, omega (arith, run.2.1)) in
    search rules

pub returns-clause-all : goal.returns-clause-all
returns-clause-all g c =
    let run = exit_by g.I.Iterator.next_gives (c.loop-item.yielded, c.loop-item.yielded_by) _ c.in-None.ensures.steps in
    (run.0, run.1 ∙ c.into_iter-item-iterator.ensures.into_iter_gives, run.2, c.loop-item.invariant.2 ∙ sym run.3.0)
