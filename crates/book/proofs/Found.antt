-- A task of a book that has a plan.
use Rattle.std.proofs.Common.{◌≡◌, ℕ, ◌-◌, ◌<◌, ◌≤◌, true, List, [], ◌∷◌, length, Some, None, Ok, Option, sym, refl, ap, ◌∙◌, arith}
use lib.ListN.{length-map}
use Rattle.std.proofs.lemmas.Bool.Decides.{nat_tests}
use Rattle.refusals.specs.Answers.{answer}
use Rattle.refusals.specs.declared.Refusal.{Refusal}
use Rattle.tasks.specs.Rows.{row_of, place_of, stands, unknown_refusal}
use Rattle.tasks.specs.declared.rows.Row.{Row}
use Rattle.sheets.specs.Sheets.{rows_of}
use Rattle.book.specs.Books.{rows_in, place_in, rows_held}
use Rattle.book.specs.declared.book.Book.{Book}
use Rattle.book.specs.declared.book.Held.TheVariants.{Plan}
use Rattle.book.specs.declared.standing.StandingPlan.{StandingPlan}

place_positive : (id : ℕ) (rows : List Row) → 1 ≤ place_of id rows
place_positive id [] = omega arith
place_positive id (row ∷ rows) = grind (arith, nat_tests)

place_inside : (id : ℕ) (rows : List Row) → stands id rows ≡ true → place_of id rows ≤ length rows
place_inside id [] known = grind (arith, nat_tests)
place_inside id (row ∷ rows) known = let ih = place_inside id rows in grind (arith, nat_tests)

-- what an accepted answer tells
told : (refusal : Option Refusal) (value x : ℕ) → Ok x ≡ answer refusal value → (refusal ≡ None) × (x ≡ value)
told None value x is = (refl, cc)
told (Some refusal) value x is = let never : ◌≡◌ {A = ℕ} 0 1 = cc in absurd (omega arith)

-- the place of a task of a table, from 1
module _ (id place : ℕ) (rows : List Row) (answered : Ok place ≡ answer (unknown_refusal id rows) (place_of id rows)) where
  -- where the rows are those of a book, the question is not refused for its id, and the place is that of the id there
  module _ {J : Type 0} (book : Book J) (same : rows ≡ rows_in book) where
    pub known_in : unknown_refusal id (rows_in book) ≡ None
    known_in = ap (unknown_refusal id) (sym same) ∙ (told (unknown_refusal id rows) (place_of id rows) place answered).0

    pub placed : place - 1 ≡ place_in book id
    placed = ap (λ n. n - 1) ((told (unknown_refusal id rows) (place_of id rows) place answered).1 ∙ ap (place_of id) same)

    -- a plan that stands has a task there
    pub place_held : (plan : StandingPlan) → book.held ≡ Plan plan → place - 1 < length (rows_of plan.sheet)
    place_held plan standing =
        let known = known_in in
        let here : stands id (rows_in book) ≡ true = grind (arith, nat_tests) in
        omega (
          arith,
          placed,
          place_positive id (rows_in book),
          place_inside id (rows_in book) here,
          ap length (ap rows_held standing),
          length-map (rows_of plan.sheet) (λ row. row_of row.id row.figures),
        )
