use Rattle.std.proofs.Common.{◌≡◌, ap, ◌∙◌, rules}
use Rattle.sheets.proofs.Soundness.{count_from_sound}
use Rattle.sheets.specs.Sheets.{rows_of}
use Rattle.book.specs.Finding.{plan_of}
use Rattle.book.proofs.Rows.{level_at_lem}
use Rattle.book.proofs.standing.task.PlannedTask.above.Goals as goal

pub returns : goal.returns
returns c other =
    let rows = c.rows-rows.result.now in
    let same : rows ≡ plan_of c.args.self.now = c.rows-rows.ensures.value ∙ ap rows_of c.sheet.ensures in
    let few = (count_from_sound rows c.rows-rows.ensures.sound).1 in
    let here = level_at_lem rows other in
    let told = c.from_fn.ensures.inside other in
    let beyond = c.from_fn.ensures.beyond other in
    search rules
