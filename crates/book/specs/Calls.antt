-- What each call makes of a book: the book before, the arguments, the answer, and the book after.
use Rattle.std.specs.Prelude.{◌≡◌, ℕ, ◌≤◌, List, [], Some, None, Ok, Err, Option, Result}
use Rattle.refusals.specs.declared.Refusal.{Refusal}
use Rattle.periods.specs.Listed.{choices_refusal}
use Rattle.periods.specs.Multiples.{common_period}
use Rattle.tasks.specs.Loads.{load, periods_in}
use Rattle.tasks.specs.Rows.{row_of, entered, amended, struck, enter_refusal, amend_refusal, unknown_refusal}
use Rattle.tasks.specs.declared.figures.Figures.{Figures}
use Rattle.tasks.specs.declared.rows.Row.{Row}
use Rattle.judges.specs.Meaning.{Meaning}
use Rattle.planner.specs.Plans.{Unplanned}
use Rattle.book.specs.declared.book.Book.{Book}
use Rattle.sheets.specs.declared.row.SheetRow.{SheetRow}
use Rattle.book.specs.Books.{rows_in, plan_in, figures_in}
use Rattle.book.specs.Plans.{Planned}

-- what a call answers that may be refused, and tells nothing besides
abbrev pub Done : Type 0
Done = Result (Unit {0}) Refusal

module _ {J : Type 0} where
  -- an empty book over a judge
  pub record Opened (judge : J) (book : Book J) : Type 0 where
    pub judges : book.judge ≡ judge
    pub empty : rows_in book ≡ []
    pub unplanned : plan_in book ≡ None

  -- an accepted change leaves these tasks, and no plan
  pub record Leaves (rows : List Row) (before after : Book J) : Type 0 where
    pub judges : after.judge ≡ before.judge
    pub tasks : rows_in after ≡ rows
    pub unplanned : plan_in after ≡ None

  -- a change of the tasks: refused, and the book is left as it was, or done
  abbrev pub Changed : Option Refusal → List Row → Book J → Done → Book J → Type 0
  Changed (Some refusal) rows before r after = (r ≡ Err refusal) × (after ≡ before)
  Changed None rows before r after = (r ≡ Ok tt) × Leaves rows before after

  abbrev pub Entered : ℕ → Figures → Book J → Done → Book J → Type 0
  Entered id figures before =
      Changed (enter_refusal (row_of id figures) (rows_in before)) (entered (row_of id figures) (rows_in before)) before

  abbrev pub Amended : ℕ → Figures → Book J → Done → Book J → Type 0
  Amended id figures before =
      Changed (amend_refusal (row_of id figures) (rows_in before)) (amended (row_of id figures) (rows_in before)) before

  abbrev pub Struck : ℕ → Book J → Done → Book J → Type 0
  Struck id before = Changed (unknown_refusal id (rows_in before)) (struck id (rows_in before)) before

  -- an accepted plan of the tasks stands after the call: a listed choice of starts, and an order that passes the judge
  pub record Plans (M : Meaning) (before after : Book J) : Type 0 where
    pub listed : choices_refusal (periods_in (figures_in before)) ≡ None
    pub light : load (figures_in before) ≤ common_period (periods_in (figures_in before))
    pub judges : after.judge ≡ before.judge
    pub tasks : rows_in after ≡ rows_in before
    pub plan : List SheetRow
    pub stands : plan_in after ≡ Some plan
    pub planned : Planned M plan

  -- a plan is found and stands; or it is said why there is none, and the book is left as it was, with a plan that stood before
  abbrev pub PlanSought : (J → Meaning) → Book J → Done → Book J → Type 0
  PlanSought M before (Ok _) after = Plans (M before.judge) before after
  PlanSought M before (Err refusal) after = Unplanned (M before.judge) (figures_in before) refusal × (after ≡ before)
