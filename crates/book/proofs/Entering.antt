-- Rows in rising order enter a table one after the other.
use Rattle.std.proofs.Common.{◌≡◌, ℕ, zero, suc, ◌+◌, ◌<◌, ◌≤◌, List, [], ◌∷◌, length, get_or, take, None, Ok, Option, Result, sym, refl, ◌∙◌, subst, arith}
use Rattle.std.specs.List.{AllByRecursion as All}
use Rattle.std.proofs.ByRecursion.{All-get_or}
use Rattle.std.proofs.lemmas.List.{take_all, take_more, drop_all, length-take-le}
use Rattle.std.proofs.lemmas.Bool.Decides.{nat_tests}
use Rattle.periods.specs.Multiples.{most_tasks}
use Rattle.refusals.specs.declared.Refusal.{Refusal}
use Rattle.tasks.specs.Figures.{Fair}
use Rattle.tasks.specs.Rows.{Rising, entered, enter_refusal}
use Rattle.tasks.specs.Seeking.{BelongsAt}
use Rattle.tasks.specs.Tables.{rows_of, Updated}
use Rattle.tasks.specs.declared.rows.Row.{Row}
use Rattle.tasks.specs.declared.table.Table.{Table}
use Rattle.tasks.proofs.Faults.{none_from_fair}
use Rattle.tasks.proofs.Found.{free, entered_here}

least_at : (least : ℕ) (rows : List Row) (k : ℕ) (d : Row) → Rising least rows → k < length rows → least ≤ (get_or rows k d).id
least_at least [] k d rising inside = absurd (omega arith)
least_at least (row ∷ rows) zero d rising inside = rising.0
least_at least (row ∷ rows) (suc k) d rising inside =
    omega (arith, rising.0, least_at (row.id + 1) rows k d rising.1 (omega arith))

smaller_before :
    (least : ℕ) (rows : List Row) (k : ℕ) (d : Row) → Rising least rows → k < length rows →
    All (λ row. row.id < (get_or rows k d).id) (take k rows)
smaller_before least [] k d rising inside = absurd (omega arith)
smaller_before least (row ∷ rows) zero d rising inside = tt
smaller_before least (row ∷ rows) (suc k) d rising inside =
    (omega (arith, least_at (row.id + 1) rows k d rising.1 (omega arith)), smaller_before (row.id + 1) rows k d rising.1 (omega arith))

module _
    (rows : List Row) (k : ℕ) (d : Row) (rising : Rising 1 rows) (fair : All (λ row. Fair row.figures) rows)
    (few : length rows ≤ most_tasks) (inside : k < length rows) where
  belongs : BelongsAt (get_or rows k d).id (take k rows) k
  belongs =
      let long = length-take-le k rows (omega arith) in
      let Smaller : List Row → Type 0 = All (λ row. row.id < (get_or rows k d).id) in
      let Greater : List Row → Type 0 = All (λ row. (get_or rows k d).id < row.id) in
      record {
        inside = omega arith;
        smaller = subst Smaller (sym (take_all k (take k rows) (omega arith))) (smaller_before 1 rows k d rising inside);
        greater = subst Greater (sym (drop_all k (take k rows) (omega arith))) tt;
      }

  pub next_accepted : enter_refusal (get_or rows k d) (take k rows) ≡ None
  next_accepted =
      let long = length-take-le k rows (omega arith) in
      let positive = least_at 1 rows k d rising inside in
      let fresh = free (get_or rows k d).id (take k rows) k belongs (grind (arith, nat_tests)) in
      let right = none_from_fair (get_or rows k d).figures (All-get_or (λ row. Fair row.figures) rows k d inside fair) in
      grind (arith, nat_tests)

  pub next_entered : entered (get_or rows k d) (take k rows) ≡ take (k + 1) rows
  next_entered =
      let long = length-take-le k rows (omega arith) in
      let short : length (take k rows) ≤ k = omega arith in
      entered_here (get_or rows k d).id (take k rows) k belongs (get_or rows k d) refl
      ∙ rw (take_all k (take k rows) short, drop_all k (take k rows) short) (sym (take_more rows k d inside))

  -- the next row is entered, and the rows up to it stand
  pub enters_next :
      (new : Row) (before after : Table) (r : Result (Unit {0}) Refusal) → new ≡ get_or rows k d → rows_of before ≡ take k rows →
      Updated (enter_refusal new (rows_of before)) (entered new (rows_of before)) before after r →
      (r ≡ Ok tt) × (rows_of after ≡ take (k + 1) rows)
  enters_next new before after r is front updated =
      let Done : Row → List Row → Type 0 = λ row rest. Updated (enter_refusal row rest) (entered row rest) before after r in
      let Accepted : Option Refusal → Type 0 = λ refusal. Updated refusal (entered (get_or rows k d) (take k rows)) before after r in
      let there : Done (get_or rows k d) (take k rows) =
      subst (λ (row : Row). Done row (take k rows)) is (subst (λ (rest : List Row). Done new rest) front updated) in
      let done = subst Accepted next_accepted there in
      (done.0, done.1 ∙ next_entered)
