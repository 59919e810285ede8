use Rattle.std.proofs.Common.{◌≡◌, map}
use Rattle.std.specs.List.{range_with_len}
use Rattle.short_list.specs.Items.{items_of}
use Rattle.tasks.specs.Places.{has}
use Rattle.judges.proofs.MarginRuns.{changed_row}
use Rattle.judges.proofs.margin.Margin.stretched_case.Given as goal

-- the rows passed are changed
abbrev pub invariant-loop-place : goal.invariant-loop-place
invariant-loop-place g l =
    items_of l.changed ≡ map (changed_row l.self.percent l.rows l.judged.place (has l.judged.above.now)) (range_with_len 0 l.place)
