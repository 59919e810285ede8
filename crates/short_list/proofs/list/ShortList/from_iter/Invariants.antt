use Rattle.std.proofs.Common.{◌≡◌, ◌+◌, ◌≤◌, length}
use Rattle.short_list.specs.Items.{items_of}
use Rattle.short_list.proofs.list.ShortList.from_iter.Given as goal

abbrev pub invariant-loop-item : goal.invariant-loop-item
invariant-loop-item g l =
    let iterator = goal.iterator-loop-item g in
    iterator.can_next l.item-iterator × iterator.is_finite l.item-iterator × (items_of l.list ≡ l.yielded)
    × (length l.yielded + iterator.remaining l.item-iterator ≤ iterator.remaining l.fn.items)
