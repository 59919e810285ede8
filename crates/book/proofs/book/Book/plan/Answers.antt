use Rattle.std.proofs.Common.{◌≤◌, List, map, sym, refl, ap, ◌∙◌, subst}
use Rattle.std.proofs.lemmas.Result.{err_from_is_err_and}
use Rattle.periods.specs.Listed.{choices_refusal}
use Rattle.periods.specs.Multiples.{common_period}
use Rattle.tasks.specs.Loads.{load, periods_in}
use Rattle.tasks.specs.Tables.{rows_of as table_rows}
use Rattle.tasks.specs.declared.figures.Figures.{Figures}
use Rattle.tasks.specs.declared.rows.Row.{Row}
use Rattle.planner.specs.Plans.{Unplanned, start_at, level_at}
use Rattle.sheets.specs.Checks.{tasks_in}
use Rattle.sheets.specs.declared.row.SheetRow.{SheetRow}
use Rattle.book.specs.Plans.{Planned}
use Rattle.book.proofs.Planning.{rows_planned, rows_none_late, rows_sound}
use Rattle.book.proofs.Rows.{tasks_in-with_plan}
use Rattle.book.proofs.book.Book.plan.Goals as goal

pub returns-in_err-plan : goal.returns-in_err-plan
returns-in_err-plan g c =
    let exit = err_from_is_err_and c.from_residual.result c.from_residual.ensures.1 in
    let M = g.J.Judge.meaning c.args.self.now.judge in
    let Why : List Row → Type 0 = λ rows. Unplanned M (map (λ row. row.figures) rows) c.in_err-plan.field-0.0 in
    rw (exit.1, exit.2) (subst Why c.table-table.ensures c.in_err-plan.ensures, refl)

pub of-requires-clause-sound : goal.of-requires-clause-sound
of-requires-clause-sound g c =
    let judge = c.args.self.now.judge in
    let answered = c.in_ok-plan.ensures in
    rows_sound (g.J.Judge.meaning judge) (g.met.J.Judge.lawful judge) c.table-table.result c.in_ok-plan.plan answered.2 answered.0

pub of-requires-clause-in_time : goal.of-requires-clause-in_time
of-requires-clause-in_time g c =
    let judge = c.args.self.now.judge in
    rows_none_late (g.J.Judge.meaning judge) (g.met.J.Judge.lawful judge) c.table-table.result c.in_ok-plan.plan c.in_ok-plan.ensures.2

pub returns : goal.returns
returns g c =
    let judge = c.args.self.now.judge in
    let M = g.J.Judge.meaning judge in
    let lawful = g.met.J.Judge.lawful judge in
    let table = c.table-table.result in
    let plan = c.in_ok-plan.plan in
    let answered = c.in_ok-plan.ensures in
    let same = c.table-table.ensures in
    let figures = ap (λ rows. map (λ row. row.figures) rows) same in
    let Passing : List SheetRow → Type 0 = Planned M in
    let Light : List Figures → Type 0 = λ tasks. load tasks ≤ common_period (periods_in tasks) in
    record {
      listed = ap (λ tasks. choices_refusal (periods_in tasks)) (sym figures) ∙ answered.0;
      light = subst Light figures answered.1;
      judges = refl;
      tasks = ap tasks_in c.of.ensures ∙ tasks_in-with_plan (table_rows table) (start_at plan) (level_at plan) ∙ same;
      plan = _;
      stands = refl;
      planned = subst Passing (sym c.of.ensures) (rows_planned M lawful table plan answered.2);
    }
