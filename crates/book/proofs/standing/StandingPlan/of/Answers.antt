use Rattle.std.proofs.Common.{◌≡◌, List, length, sym, ap, ap₂, ◌∙◌, subst, arith, rules}
use Rattle.std.specs.Slice.Iter.{iter_rest}
use Rattle.short_list.proofs.Collected.{collected_pairs, paired}
use Rattle.tasks.specs.Tables.{rows_of as table_rows}
use Rattle.tasks.specs.declared.rows.Row.{Row}
use Rattle.planner.specs.Plans.{start_at, level_at}
use Rattle.planner.specs.declared.plan.Assignment.{Assignment}
use Rattle.sheets.specs.declared.row.SheetRow.{SheetRow}
use Rattle.sheets.proofs.Soundness.{none_from_sound}
use Rattle.book.specs.Plans.{with_plan}
use Rattle.book.specs.Punctual.{NoneLate}
use Rattle.book.proofs.Filling.{sheet_forms, sheet_holds}
use Rattle.book.proofs.Rows.{planned_pairs}
use Rattle.book.proofs.standing.StandingPlan.of.Goals as goal
use Rattle.book.proofs.standing.StandingPlan.of.Goals.{After-deref}

-- all rows stand on the sheet, with what the plan gives them
planned : (c : After-deref) → c.deref.result.now ≡ with_plan (table_rows c.args.table.now) (start_at c.args.plan.now) (level_at c.args.plan.now)
planned c =
    let of : Row → Assignment → SheetRow = λ row task. record { id = row.id; figures = row.figures; start = task.start; level = task.level } in
    let given = c.zip-planned.ensures.second in
    let rows = c.iter.ensures.rest ∙ c.rows.ensures.value in
    let tasks = given.0 ∙ c.assignments.ensures.value in
    let made = collected_pairs _ _ c.unwrap-rows.ensures c.from_iter.ensures.all iter_rest iter_rest of (λ pair r f' k. search rules)
    c.map-rows.ensures.runs c.zip-planned.ensures.runs c.iter.ensures.runs given.2 (omega (arith, ap length rows, ap length tasks, c.requires.whole)) in
    c.deref.ensures.0 ∙ made ∙ ap₂ (paired of) rows tasks ∙ planned_pairs _ _ (omega (arith, c.requires.whole))

pub unwrap-requires : goal.unwrap-requires
unwrap-requires c =
    sheet_forms _ _ c.form.result c.form.ensures.value (planned ((goal.at.unwrap-requires c).After-deref)) (none_from_sound _ c.requires.sound)

pub invariant_of-result : goal.invariant_of-result
invariant_of-result c =
    let Kept : List SheetRow → Type 0 = NoneLate in
    let holds = sheet_holds _ _ c.form.result c.form.ensures.value (planned ((goal.at.invariant_of-result c).After-deref)) c.unwrap.result c.unwrap.ensures in
    record { in_time = subst Kept (sym holds) c.requires.in_time }

pub returns : goal.returns
returns c = sheet_holds _ _ c.form.result c.form.ensures.value (planned ((goal.at.returns c).After-deref)) c.unwrap.result c.unwrap.ensures
