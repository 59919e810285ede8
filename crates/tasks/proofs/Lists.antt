-- How long short lists are.
use Rattle.std.proofs.Common.{ℕ, ◌≤◌, length, arith}
use Rattle.std.proofs.lemmas.List.{length-take-le}
use Rattle.short_list.specs.Items.{items_of}
use Rattle.short_list.specs.declared.list.ShortList.{ShortList}

pub few_items : {T : Type 0} {N : ℕ} (list : ShortList T N) → length (items_of list) ≤ N
few_items list = omega (arith, length-take-le list.len list.slots (omega arith))
