use Rattle.std.proofs.Common.{sym, subst}
use Rattle.sheets.proofs.Soundness.{sheet_sound}
use Rattle.charts.specs.Dues.{LateAt}
use Rattle.charts.proofs.Owed.{level_some, row_at, not_due, not_owed, still_owed}
use Rattle.charts.proofs.deadlines.Deadlines.late_at.Goals as goal

pub request_due-requires : goal.request_due-requires
request_due-requires c = (row_at _ _ c.rows.ensures (sheet_sound c.args.self.now.running.sheet.now) c.args.place _ c.requires).1

pub returns-in_err-request : goal.returns-in_err-request
returns-in_err-request c =
    let sound = sheet_sound c.args.self.now.running.sheet.now in
    let own = row_at _ _ c.rows.ensures sound c.args.place _ c.requires in
    subst (LateAt _ c.args.place _) (sym c.from_residual.ensures)
    (not_due _ sound c.args.place _ own.0 own.1 _ _ c.tick-deadline.ensures c.in_err-request.ensures)

pub left-requires : goal.left-requires
left-requires c =
    let sound = sheet_sound c.args.self.now.running.sheet.now in
    let own = row_at _ _ c.rows.ensures sound c.args.place _ c.requires in
    level_some _ sound c.args.place _ own.0

pub returns-then-left-eq0 : goal.returns-then-left-eq0
returns-then-left-eq0 c =
    let w = c.args.self.now in
    let sound = sheet_sound w.running.sheet.now in
    let own = row_at _ _ c.rows.ensures sound c.args.place _ c.requires in
    not_owed _ sound c.args.place _ own.0 own.1 _ _ c.tick-deadline.ensures _ c.left.ensures c.if-left-eq0.true

pub returns : goal.returns
returns c =
    let w = c.args.self.now in
    let sound = sheet_sound w.running.sheet.now in
    let own = row_at _ _ c.rows.ensures sound c.args.place _ c.requires in
    still_owed _ sound c.args.place _ own.0 own.1 _ _ c.tick-deadline.ensures _ c.left.ensures _ c.in_ok-request.ensures c.if-left-eq0.false
