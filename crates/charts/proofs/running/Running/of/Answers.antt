use Rattle.std.proofs.Common.{◌≡◌, ℕ, suc, ◌+◌, List, length, is_some, Option, sym, ap, ◌∙◌, add-one, arith}
use Rattle.sheets.specs.Sheets.{rows_of}
use Rattle.sheets.specs.declared.row.SheetRow.{SheetRow}
use Rattle.sheets.proofs.Soundness.{sheet_sound}
use Rattle.charts.specs.Plans.{row_on}
use Rattle.charts.proofs.Levels.{taken}
use Rattle.charts.proofs.Raised.{raised_more, all_raised, formed, task_of}
use Rattle.charts.proofs.running.Running.of.Goals as goal

-- the row that was found is the one on the next level of the sheet
next_row :
    (read rows : List SheetRow) (level : ℕ) (found : Option SheetRow) → found ≡ row_on (level + 1) read → read ≡ rows →
    found ≡ row_on (suc level) rows
next_row read rows level found is same = is ∙ ap (row_on (level + 1)) same ∙ ap (λ level. row_on level rows) (add-one level)

pub unwrap-row-requires : goal.unwrap-row-requires
unwrap-row-requires c =
    let rows = c.rows-rows.ensures.value in
    ap is_some (next_row _ _ c.loop-level.level _ c.row_on.ensures rows)
    ∙ taken (rows_of c.args.sheet.now) (sheet_sound c.args.sheet.now) c.loop-level.level (omega (arith, ap length rows))

pub unwrap-task-requires : goal.unwrap-task-requires
unwrap-task-requires c =
    let here = sym (next_row _ _ c.loop-level.level _ c.row_on.ensures c.rows-rows.ensures.value) ∙ c.unwrap-row.ensures in
    formed (rows_of c.args.sheet.now) (sheet_sound c.args.sheet.now) c.loop-level.level c.loop-level.processor c.loop-level.invariant c.unwrap-row.result here
    c.form.result c.form.ensures.fair c.form.ensures.cases

pub loop-level-preserved : goal.loop-level-preserved
loop-level-preserved c =
    let rows = c.rows-rows.ensures.value in
    let here = sym (next_row _ _ c.loop-level.level _ c.row_on.ensures rows) ∙ c.unwrap-row.ensures in
    let task = task_of c.unwrap-row.result c.form.result c.form.ensures.cases _ c.unwrap-task.ensures in
    raised_more (rows_of c.args.sheet.now) (sheet_sound c.args.sheet.now) c.loop-level.level c.loop-level.processor c.loop-level.invariant c.unwrap-row.result here
    (omega (arith, ap length rows)) _ _ task c.from.ensures _ _ c.add.ensures.value c.add.ensures.after

pub invariant_of-result : goal.invariant_of-result
invariant_of-result c = record {
  stands =
      all_raised (rows_of c.args.sheet.now) (sheet_sound c.args.sheet.now) c.loop-level.level c.loop-level.processor c.loop-level.invariant
      (omega (arith, ap length c.rows-rows.ensures.value));
}
