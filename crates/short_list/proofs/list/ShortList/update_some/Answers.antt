use Rattle.std.proofs.Common.{sym, ap, arith, of_calls}
use Rattle.std.specs.Option.{unwrap_or}
use Rattle.short_list.proofs.Changes.{changed_to, stays_as}
use Rattle.short_list.proofs.list.ShortList.update_some.Goals as goal
use Rattle.short_list.proofs.list.ShortList.update_some.Goals.{in-Some, in_default}

pub loop-slot-preserved : goal.loop-slot-preserved
loop-slot-preserved g c =
    elim c.match-by.branch [
      | in-Some w ↦
          changed_to _ _ _ _ _ _ c.loop-slot.invariant (omega arith) (omega arith) c.slot-item.is w.in-Some.given w.slot-items-is
          (c.by.result, search of_calls, ap (λ r. unwrap_or r c.slot-item.result) (sym w.in-Some.is))
      | in_default w ↦
          stays_as _ _ _ _ _ _ c.loop-slot.invariant (omega arith) (omega arith) c.slot-item.is w.slot-items-is
          (c.by.result, search of_calls, ap (λ r. unwrap_or r c.slot-item.result) (sym w.in_default.is))
    ]
