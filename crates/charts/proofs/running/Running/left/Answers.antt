use Rattle.std.proofs.Common.{◌≡◌, suc, ◌-◌, sym, ap, ◌∙◌, arith}
use Rattle.timeline.specs.Processor.{owing}
use Rattle.sheets.specs.Sheets.{rows_of}
use Rattle.sheets.proofs.Soundness.{sheet_sound}
use Rattle.charts.specs.Plans.{demands_of}
use Rattle.charts.proofs.Levels.{top_free}
use Rattle.charts.proofs.Shift.{owing_shift}
use Rattle.charts.proofs.running.Running.left.Goals as goal

pub returns : goal.returns
returns c =
    let r = c.args.self.now in
    let rows = rows_of r.sheet.now in
    let level = c.from.result - 1 in
    let below : c.args.row.level ≡ suc level = omega (arith, c.from.ensures, c.requires) in
    c.left.ensures ∙ sym (r.stands.owes level)
    ∙ sym (owing_shift (demands_of rows) (top_free rows (sheet_sound r.sheet.now)) r.processor.tick level)
    ∙ sym (ap (owing (demands_of rows) r.processor.tick) below)
