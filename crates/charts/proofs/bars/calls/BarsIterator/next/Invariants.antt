use Rattle.std.proofs.Common.{◌≡◌, ℕ, ◌+◌, ◌-◌}
use Rattle.charts.specs.Windows.{Went}
use Rattle.charts.proofs.bars.calls.BarsIterator.next.Given as goal

-- the ticks since the first run show its id too
abbrev pub invariant-loop-more : goal.invariant-loop-more
invariant-loop-more l = (more : ℕ) × (l.length ≡ l.initial.length + more) × Went l.initial.self l.run.id more l.self

abbrev pub decreases-loop-more : goal.decreases-loop-more
decreases-loop-more l = l.self.to - l.self.running.processor.tick
