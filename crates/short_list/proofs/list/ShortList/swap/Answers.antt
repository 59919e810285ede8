use Rattle.std.proofs.Common.{arith}
use Rattle.short_list.proofs.Swaps.{taken_swapped}
use Rattle.short_list.proofs.list.ShortList.swap.Goals as goal

pub returns-then-second-self-clause-items : goal.returns-then-second-self-clause-items
returns-then-second-self-clause-items g c =
    let list = c.args.self.now in
    taken_swapped list.len list.slots _ c.args.first c.args.second c.if-first-self.true c.if-second-self.true
    (omega (arith, list.width, list.within)) c.swap.ensures.after
