-- A walk gives few entries, since the timeline ends.
use Rattle.std.specs.Prelude.{◌-◌, ◌^◌, ◌<◌}
use Rattle.std.proofs.Common.{arith}
use Rattle.charts.specs.Dues.{places_left}
use Rattle.charts.specs.declared.bars.Bars.{Bars}
use Rattle.charts.specs.declared.deadlines.Deadlines.{Deadlines}

pub bars_few : (w : Bars) → w.to - w.running.processor.tick < 2 ^ 32
bars_few w = omega arith

pub deadlines_few : (w : Deadlines) → places_left w < 2 ^ 32
deadlines_few w = omega arith
