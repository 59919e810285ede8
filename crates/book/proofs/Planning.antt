-- From a plan of the planner to rows of a sheet on which nobody is late.
use Rattle.std.proofs.Common.{◌≡◌, ℕ, ◌<◌, ◌≤◌, ltb, List, length, get_or, None, sym, refl, ◌∙◌, subst, arith}
use lib.ListN.{length-map}
use Rattle.std.proofs.ByRecursion.{All-from_get_or}
use Rattle.std.proofs.lemmas.List.{take_all}
use Rattle.periods.specs.Listed.{choices_refusal, start_of as start_of_listed}
use Rattle.periods.specs.Multiples.{most_tasks}
use Rattle.periods.proofs.Ranks.{listed_below_period}
use Rattle.tasks.specs.Loads.{periods_in}
use Rattle.tasks.specs.Rows.{Rising}
use Rattle.tasks.specs.Tables.{rows_of, figures_in}
use Rattle.tasks.specs.Timed.{Sound as FormsCase}
use Rattle.tasks.specs.declared.figures.Figures.{Figures}
use Rattle.tasks.specs.declared.rows.Row.{Row}
use Rattle.tasks.specs.declared.rows.Timed.{Timed}
use Rattle.tasks.specs.declared.table.Table.{Table}
use Rattle.tasks.proofs.Ordered.{rising_from_tidy, fair_from_tidy, few_rows}
use Rattle.timeline.specs.Laws.{AllFair}
use Rattle.judges.specs.Meaning.{Meaning, Lawful}
use Rattle.planner.specs.Orders.{PassingOrder}
use Rattle.planner.specs.Plans.{Planned as PlannedBy, PassingPlan, start_at, level_at, count_of, given_in, starts_in as starts_in_plan, timed}
use Rattle.planner.specs.declared.plan.Plan.{Plan}
use Rattle.planner.proofs.Fairness.{table_fair}
use Rattle.planner.proofs.Rows.{length-timed, timed_figures, fair_timed, timely_timed, proper_periods, period_known}
use Rattle.planner.proofs.Starts.{levels_like, passes_like}
use Rattle.charts.specs.Plans.{tasks_of, start_of, level_of}
use Rattle.sheets.specs.Checks.{Sound, timed_in, levels_in}
use Rattle.sheets.specs.declared.row.SheetRow.{SheetRow}
use Rattle.book.specs.Plans.{Ordered, Planned, starts_in, with_plan}
use Rattle.book.specs.Punctual.{NoneLate}
use Rattle.book.proofs.Below.{never_late_in_order}
use Rattle.book.proofs.Rows.{length-with_plan, tasks_in-with_plan, timed_in-with_plan, tasks_of-with_plan, level_of-with_plan, starts_in-with_plan}

pub length-tasks_of : (rows : List SheetRow) → length (tasks_of rows) ≡ length rows
length-tasks_of rows = length-map (timed_in rows) (λ row. row.figures) ∙ length-map rows (λ row. record { figures = row.figures; start = row.start })

-- an order that passes a lawful judge makes nobody late
pub ordered_none_late :
    (M : Meaning) → Lawful M → (rows : List SheetRow) → AllFair (tasks_of rows) → Ordered M rows → NoneLate rows
ordered_none_late M lawful rows fair ordered place inside =
    let long = length-tasks_of rows in
    let held : place < length (tasks_of rows) = omega arith in
    never_late_in_order (tasks_of rows) (start_of rows) (level_of rows) place (λ other. ltb (level_of rows other) (level_of rows place)) held
    (λ p below same. ordered.order.apart p place below held same) (λ p below other. refl)
    (lawful.sound (tasks_of rows) (start_of rows) place (λ other. ltb (level_of rows other) (level_of rows place)) fair (ordered.passes place held))

-- the rows of a table with a plan of its tasks
module _ (M : Meaning) (lawful : Lawful M) (table : Table) (plan : Plan) (planned : PlannedBy M (figures_in table) plan) where
  abbrev planned_rows : List SheetRow
  planned_rows = with_plan (rows_of table) (start_at plan) (level_at plan)

  pub planned_whole : count_of plan ≡ length (rows_of table)
  planned_whole = planned.count ∙ length-map (rows_of table) (λ row. row.figures)

  same_tasks : tasks_of planned_rows ≡ figures_in table
  same_tasks = tasks_of-with_plan (rows_of table) (start_at plan) (level_at plan)

  long : length planned_rows ≡ length (rows_of table)
  long = length-with_plan (rows_of table) (start_at plan) (level_at plan)

  few : length (rows_of table) ≤ most_tasks
  few = few_rows table

  same_level : (q : ℕ) → q < length (rows_of table) → level_at plan q ≡ level_of planned_rows q
  same_level q inside = sym (level_of-with_plan (rows_of table) (start_at plan) (level_at plan) q inside)

  same_starts : starts_in_plan plan ≡ starts_in planned_rows
  same_starts =
      let many : length (starts_in_plan plan) ≡ length (rows_of table) = length-map (given_in plan) (λ task. task.start) ∙ planned_whole in
      sym (take_all (length (rows_of table)) (starts_in_plan plan) (omega arith))
      ∙ sym (starts_in-with_plan (rows_of table) (starts_in_plan plan) (level_at plan) (omega arith))

  passing : PassingPlan M (figures_in table) (starts_in_plan plan) (level_at plan)
  passing =
      let start : (q : ℕ) → q < length (figures_in table) → start_at plan q ≡ start_of_listed (starts_in_plan plan) q =
      λ q inside. refl in
      record {
        listed = planned.listed;
        ordered = record {
          order = planned.levels;
          passes =
              passes_like M lawful (figures_in table) (table_fair table) (start_at plan) (start_of_listed (starts_in_plan plan)) (level_at plan) (level_at plan)
              start (λ q inside. refl) planned.passes;
        };
      }

  pub rows_planned : Planned M planned_rows
  rows_planned =
      let many = length-map (rows_of table) (λ row. row.figures) in
      let OfStarts : List ℕ → Type 0 = λ starts. PassingPlan M (figures_in table) starts (level_at plan) in
      let OfTasks : List Figures → Type 0 = λ tasks. PassingPlan M tasks (starts_in planned_rows) (level_of planned_rows) in
      let passed = subst OfStarts same_starts passing in
      let level : (q : ℕ) → q < length (figures_in table) → level_at plan q ≡ level_of planned_rows q =
      λ q inside. same_level q (omega arith) in
      let ordered : PassingOrder M (figures_in table) (start_of planned_rows) (level_of planned_rows) =
      record {
        order = levels_like (length (figures_in table)) (level_at plan) (level_of planned_rows) level passed.ordered.order;
        passes =
            passes_like M lawful (figures_in table) (table_fair table) (start_of planned_rows) (start_of planned_rows) (level_at plan) (level_of planned_rows)
            (λ q inside. refl) level passed.ordered.passes;
      }
      in
      subst OfTasks (sym same_tasks) (record { listed = passed.listed; ordered = ordered })

  pub rows_none_late : NoneLate planned_rows
  rows_none_late =
      let Fair' : List Figures → Type 0 = AllFair in
      ordered_none_late M lawful planned_rows (subst Fair' (sym same_tasks) (table_fair table)) rows_planned.ordered

  module _ (listed : choices_refusal (periods_in (figures_in table)) ≡ None) where
    below_period : (q : ℕ) → q < length (rows_of table) → start_at plan q < get_or (periods_in (figures_in table)) q 0
    below_period q inside =
        let ts = periods_in (figures_in table) in
        let many : length ts ≡ length (rows_of table) =
        length-map (figures_in table) (λ task. task.period) ∙ length-map (rows_of table) (λ row. row.figures) in
        omega (
          arith,
          listed_below_period ts (starts_in_plan plan) q (proper_periods (figures_in table) (table_fair table)) planned.listed (omega arith),
          length-map (given_in plan) (λ task. task.start),
          planned_whole,
        )

    forms_case : FormsCase (timed (rows_of table) (start_at plan))
    forms_case =
        let ts = periods_in (figures_in table) in
        let known = period_known ts listed in
        let many : length ts ≡ length (rows_of table) =
        length-map (figures_in table) (λ task. task.period) ∙ length-map (rows_of table) (λ row. row.figures) in
        let timed-long = length-timed (rows_of table) (start_at plan) in
        record {
          some = omega (arith, known.0);
          few = omega (arith, few);
          fair = fair_timed (rows_of table) (start_at plan) (fair_from_tidy 1 (rows_of table) table.tidy);
          timely = timely_timed (rows_of table) (start_at plan) below_period;
          short = rw (timed_figures (rows_of table) (start_at plan)) known.1;
        }

    pub rows_sound : Sound planned_rows
    rows_sound =
        let Ascending : List Row → Type 0 = Rising 1 in
        let Forms : List Timed → Type 0 = FormsCase in
        let levels = rows_planned.ordered.order in
        let held = length-tasks_of planned_rows in
        let many = length-map planned_rows (λ row. row.level) in
        record {
          rising =
              subst Ascending (sym (tasks_in-with_plan (rows_of table) (start_at plan) (level_at plan)))
              (rising_from_tidy 1 (rows_of table) table.tidy);
          case = subst Forms (sym (timed_in-with_plan (rows_of table) (start_at plan) (level_at plan))) forms_case;
          levels =
              All-from_get_or (λ level. (1 ≤ level) × (level ≤ length planned_rows)) (levels_in planned_rows) 0
              (λ i inside. (levels.least i (omega arith), omega (arith, levels.most i (omega arith))));
          different = λ i j inside-i inside-j same. levels.apart i j (omega arith) (omega arith) same;
        }
