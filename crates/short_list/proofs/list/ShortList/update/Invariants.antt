use Rattle.short_list.proofs.Changes.{ChangedBelow}
use Rattle.short_list.proofs.list.ShortList.update.Given as goal

abbrev pub invariant-loop-item : goal.invariant-loop-item
invariant-loop-item g l = ChangedBelow (λ x y. goal.F-post g l.by x y) l.initial.item-items l.item-items l.item-index
