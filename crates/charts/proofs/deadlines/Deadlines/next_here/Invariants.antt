use Rattle.std.proofs.Common.{◌≡◌, ◌-◌, length}
use Rattle.sheets.specs.Sheets.{rows_of}
use Rattle.charts.specs.Dues.{Skipped}
use Rattle.charts.proofs.deadlines.Deadlines.next_here.Given as goal

-- the places passed had no late request
abbrev pub invariant-loop-self : goal.invariant-loop-self
invariant-loop-self l =
    Skipped l.initial.self l.self × (l.self.running.processor.tick ≡ l.initial.self.running.processor.tick) × (l.self.last ≡ l.initial.self.last)

abbrev pub decreases-loop-self : goal.decreases-loop-self
decreases-loop-self l = length (rows_of l.self.running.sheet.now) - l.self.place
