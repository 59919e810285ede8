use Rattle.std.proofs.Common.{◌≡◌, ◌+◌, List, take, Ok, rules, length, get_or, sym, ap, ◌∙◌, subst, arith}
use lib.ListN.{length-map}
use Rattle.std.proofs.lemmas.List.{get_or-map}
use Rattle.tasks.specs.Rows.{row_of}
use Rattle.tasks.specs.Tables.{rows_of as table_rows}
use Rattle.tasks.specs.declared.rows.Row.{Row}
use Rattle.sheets.specs.Checks.{Sound, tasks_in}
use Rattle.sheets.specs.Sheets.{rows_of}
use Rattle.sheets.specs.declared.row.SheetRow.{SheetRow}
use Rattle.sheets.proofs.Soundness.{count_from_sound}
use Rattle.book.proofs.Entering.{enters_next}
use Rattle.book.proofs.Rows.{blank, fair_tasks}
use Rattle.book.proofs.standing.StandingPlan.table.Goals as goal
use Rattle.book.proofs.standing.StandingPlan.table.Goals.{After-enter}

-- each row enters behind those before it
enters :
    (c : After-enter) →
    (c.enter.result ≡ Ok tt) × (table_rows c.enter.new.self ≡ take (c.loop-row.row-index + 1) (tasks_in (rows_of c.args.self.now.sheet)))
enters c =
    let rows = rows_of c.args.self.now.sheet in
    let k = c.loop-row.row-index in
    let same = c.rows-row-items.ensures.value in
    let Right : List SheetRow → Type 0 = Sound in
    let sound = subst Right same c.rows-row-items.ensures.sound in
    let Task : SheetRow → Row = λ row. row_of row.id row.figures in
    let many = length-map rows Task in
    let few = (count_from_sound rows sound).1 in
    let long = ap length same in
    enters_next (tasks_in rows) k (Task blank) sound.rising (fair_tasks rows sound.case.fair) (omega arith) (omega arith) _
    c.loop-row.table c.enter.new.self c.enter.result
    (ap (λ all. Task (get_or all k blank)) same ∙ sym (get_or-map Task rows k blank (Task blank) (omega arith))) c.loop-row.invariant
    c.enter.ensures.updated

pub unwrap-requires : goal.unwrap-requires
unwrap-requires c = let done = enters ((goal.at.unwrap-requires c).After-enter) in search rules

pub loop-row-preserved : goal.loop-row-preserved
loop-row-preserved c = (enters ((goal.at.loop-row-preserved c).After-enter)).1
