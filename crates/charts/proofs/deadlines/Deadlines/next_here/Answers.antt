use Rattle.std.proofs.Common.{◌<◌, length, sym, ap, arith}
use Rattle.sheets.specs.Sheets.{rows_of}
use Rattle.charts.proofs.Dues.{skipped_on, found_here, skip_here}
use Rattle.charts.proofs.deadlines.Deadlines.next_here.Goals as goal

pub returns-then-is_some : goal.returns-then-is_some
returns-then-is_some c =
    let w = c.loop-self.self in
    let inv = c.loop-self.invariant in
    let here : w.place < length (rows_of w.running.sheet.now) = omega (arith, ap length c.rows.ensures) in
    found_here w here _ _ _ c.args.self.now inv.0 (omega (arith, c.requires, inv.1, inv.2))
    c.late_at-late.result (sym c.if-is_some.ensures) c.late_at-late.ensures

pub loop-self-preserved : goal.loop-self-preserved
loop-self-preserved c =
    let w = c.loop-self.self in
    let inv = c.loop-self.invariant in
    let here : w.place < length (rows_of w.running.sheet.now) = omega (arith, ap length c.rows.ensures) in
    (skipped_on _ _ _ inv.0 (skip_here w here _ _ _ c.late_at-late.result (sym c.if-is_some.ensures) c.late_at-late.ensures), inv.1, inv.2)
