use Rattle.std.proofs.Common.{◌≡◌, Option}
use Rattle.std.specs.Option.{unwrap_or}
use Rattle.short_list.proofs.Changes.{ChangedBelow}
use Rattle.short_list.proofs.list.ShortList.update_some.Given as goal

-- what the function gives of the one is the other, or it gives nothing and they are the same
abbrev pub invariant-loop-slot : goal.invariant-loop-slot
invariant-loop-slot g l =
    ChangedBelow (λ old new. (given : Option _) × goal.F-post g l.by old given × (new ≡ unwrap_or given old)) l.initial.slot-items l.slot-items l.slot-index
