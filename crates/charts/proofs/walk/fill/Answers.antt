use Rattle.std.proofs.Common.{length, ◌≢◌, sym, subst, rules, arith}
use Rattle.std.proofs.lemmas.Result.{err_from_is_err_and}
use Rattle.entries.specs.Lists.{Refilled, held, slots_of}
use Rattle.entries.proofs.Filling.{filled_full}
use Rattle.charts.proofs.Filling.{drained_ahead, more_ahead, all_ahead}
use Rattle.charts.proofs.walk.fill.Goals as goal

pub returns-in_err-clear_for : goal.returns-in_err-clear_for
returns-in_err-clear_for g c =
    let counted = c.count.ensures.ran in
    let short = c.in_err-clear_for.ensures in
    let exit = err_from_is_err_and c.from_residual.result c.from_residual.ensures.1 in (
      counted.0,
      drained_ahead g.W.Walk.ahead g.W.Iterator.next_gives g.met.W.Walk.gives _ _ counted.1,
      rw (exit.1, exit.2) (short.0, omega (arith, short.1, counted.2), short.2),
    )

-- the list has room for what was counted
pub unwrap-requires : goal.unwrap-requires
unwrap-requires g c =
    let counted = c.count.ensures.ran in
    let ahead = drained_ahead g.W.Walk.ahead g.W.Iterator.next_gives g.met.W.Walk.gives _ _ counted.1 in
    let same = c.into_iter-entry-iterator.ensures.into_iter_gives in
    let more = more_ahead g.W.Walk.ahead g.W.Iterator.next_gives g.met.W.Walk.gives _ _ _ _ _ c.loop-entry.yielded_by (subst (λ w. g.W.Walk.ahead w counted.0) (sym same) ahead) _ c.in-Some.ensures.steps in
    let room : length (held c.loop-entry.list) ≢ length (slots_of c.loop-entry.list) = λ full. omega (arith, c.in_ok-clear_for.ensures.0, more, filled_full _ _ c.loop-entry.list c.loop-entry.invariant.0 full, counted.2) in
    search rules

pub returns : goal.returns
returns g c =
    let counted = c.count.ensures.ran in
    let ahead = drained_ahead g.W.Walk.ahead g.W.Iterator.next_gives g.met.W.Walk.gives _ _ counted.1 in
    let same = c.into_iter-entry-iterator.ensures.into_iter_gives in
    let all = all_ahead g.W.Walk.ahead g.W.Iterator.next_gives g.met.W.Walk.gives _ _ _ _ _ c.loop-entry.yielded_by (subst (λ w. g.W.Walk.ahead w counted.0) (sym same) ahead) c.in-None.ensures.steps in (
      counted.0,
      ahead,
      (omega (arith, c.in_ok-clear_for.ensures.0, counted.2), subst (λ given. Refilled c.args.list.now given c.loop-entry.list) all c.loop-entry.invariant),
    )
