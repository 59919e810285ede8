-- What sound rows hold, row by row.
use Rattle.std.proofs.Common.{◌≡◌, ◌<◌, ◌≤◌, List, [], ◌∷◌, length, None, ◌∙◌, arith}
use lib.ListN.{length-map}
use Rattle.std.specs.List.{AllByRecursion as All}
use Rattle.std.proofs.lemmas.Bool.Decides.{nat_tests}
use Rattle.periods.specs.Multiples.{most_tasks, period_refusal}
use Rattle.tasks.specs.Figures.{Fair}
use Rattle.tasks.specs.Loads.{periods_in}
use Rattle.tasks.specs.Timed.{figures_given}
use Rattle.tasks.specs.declared.rows.Timed.{Timed}
use Rattle.sheets.specs.Checks.{Sound, timed_in}
use Rattle.sheets.specs.declared.row.SheetRow.{SheetRow}

timed-length : (rows : List SheetRow) → length (timed_in rows) ≡ length rows
timed-length rows = length-map rows (λ row. record { figures = row.figures; start = row.start })

fair_all : (rows : List SheetRow) → All (λ (row : Timed). Fair row.figures) (timed_in rows) → All (λ row. Fair row.figures) rows
fair_all [] all = tt
fair_all (row ∷ rows) all = (all.0, fair_all rows all.1)

timely_all :
    (rows : List SheetRow) → All (λ (row : Timed). row.start < row.figures.period) (timed_in rows) →
    All (λ row. row.start < row.figures.period) rows
timely_all [] all = tt
timely_all (row ∷ rows) all = (all.0, timely_all rows all.1)

module _ (rows : List SheetRow) (sound : Sound rows) where
  pub few_rows : length rows ≤ most_tasks
  few_rows = omega (arith, timed-length rows, sound.case.few)

  pub fair_rows : All (λ row. Fair row.figures) rows
  fair_rows = fair_all rows sound.case.fair

  pub timely_rows : All (λ row. row.start < row.figures.period) rows
  timely_rows = timely_all rows sound.case.timely

  -- there is a common period to work with
  pub period_answered : period_refusal (periods_in (figures_given (timed_in rows))) ≡ None
  period_answered =
      let long = length-map (figures_given (timed_in rows)) (λ task. task.period) ∙ length-map (timed_in rows) (λ row. row.figures) in
      let some = sound.case.some in
      let short = sound.case.short in
      grind (arith, nat_tests)
