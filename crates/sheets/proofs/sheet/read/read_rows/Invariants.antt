use Rattle.std.proofs.Common.{◌≡◌, ◌/◌, ◌++◌, length}
use Rattle.short_list.specs.Items.{items_of}
use Rattle.sheets.specs.Bytes.{rows_in}
use Rattle.sheets.proofs.sheet.read.read_rows.Given as goal

-- the rows made and those that the bytes to come tell are all rows
abbrev pub invariant-loop-tasks : goal.invariant-loop-tasks
invariant-loop-tasks l =
    (length l.plans / 3 ≡ length l.tasks / 7)
    × (items_of l.rows ++ rows_in (length l.tasks / 7) l.tasks l.plans ≡ rows_in (length l.initial.tasks / 7) l.initial.tasks l.initial.plans)

abbrev pub decreases-loop-tasks : goal.decreases-loop-tasks
decreases-loop-tasks l = length l.tasks
