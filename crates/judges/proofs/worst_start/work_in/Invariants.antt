use Rattle.std.proofs.Common.{◌≡◌, ◌+◌, ◌*◌, ◌≤◌}
use Rattle.tasks.specs.Places.{has}
use Rattle.tasks.specs.Timed.{figures_given}
use Rattle.judges.proofs.WorstStartRuns.{work_up_to}
use Rattle.judges.proofs.worst_start.work_in.Given as goal

-- the work of the places passed; each adds at most two periods
abbrev pub invariant-loop-place : goal.invariant-loop-place
invariant-loop-place l =
    (l.work ≡ work_up_to (figures_given l.rows) l.judged.place (has l.judged.above.now) l.ticks l.place)
    × (l.work ≤ (l.place + 1) * 4000)
