use Rattle.short_list.proofs.Changes.{changed_more}
use Rattle.std.proofs.Common.{arith, of_calls}
use Rattle.short_list.proofs.list.ShortList.update.Goals as goal

pub loop-item-preserved : goal.loop-item-preserved
loop-item-preserved g c =
    changed_more _ _ _ _ _ _ c.loop-item.invariant (omega arith) (omega arith) c.item-item.is (search of_calls)
