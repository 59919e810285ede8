use Rattle.std.proofs.Common.{◌≤◌}
use Rattle.short_list.specs.Items.{items_of}
use Rattle.periods.specs.Listed.{most_choices}
use Rattle.periods.proofs.Places.{RadicesSoFar}
use Rattle.periods.proofs.row.Periods.choices.Given as goal

abbrev pub invariant-loop-period : goal.invariant-loop-period
invariant-loop-period l =
    RadicesSoFar l.period-items l.period-index l.common l.total (items_of l.radices) × (l.total ≤ most_choices)
