-- What a book answers, and what it fills a caller's list or buffer with.
use Rattle.std.specs.Prelude.{◌≡◌, ℕ, List, length, Some, None, Err, Option, Result, nat_lt}
use Rattle.refusals.specs.Answers.{answer, refuse_if, AnswersWith}
use Rattle.refusals.specs.declared.Refusal.{Refusal}
use Rattle.refusals.specs.declared.Refusal.TheVariants.{NoStandingPlan, ListTooShort}
use Rattle.timeline.specs.Timeline.{WorstResponse}
use Rattle.judges.specs.Meaning.{Meaning, Reckoning, Tells}
use Rattle.entries.specs.declared.Bar.{Bar}
use Rattle.entries.specs.declared.list.List.{List as EntryList}
use Rattle.charts.specs.Charts.{Charted}
use Rattle.charts.specs.Plans.{tasks_of, start_of, level_of}
use Rattle.sheets.specs.Bytes.{sheet_length}
use Rattle.sheets.specs.Sheets.{overwritten}
use Rattle.sheets.specs.declared.row.SheetRow.{SheetRow}
use Rattle.book.specs.declared.book.Book.{Book}
use Rattle.book.specs.Books.{plan_rows, place_in, ask_refusal}
use Rattle.book.specs.Plans.{above}

-- the worst response of the task at a place of a plan, on the endless timeline of all the tasks
abbrev pub RespondsAt : List SheetRow → ℕ → ℕ → Type 0
RespondsAt rows place response = WorstResponse (tasks_of rows) (start_of rows) (level_of rows) place response

-- its reckoned response, with those of smaller level above; it is absent exactly on a no
abbrev pub ReckonedIn : Meaning → Reckoning → List SheetRow → ℕ → Option ℕ → Type 0
ReckonedIn M N rows place response =
    Tells response (M (tasks_of rows) (start_of rows) place (above rows place)) (N (tasks_of rows) (start_of rows) place (above rows place))

module _ {J : Type 0} (book : Book J) where
  -- a task's start, its level, and its worst response
  abbrev pub start_answer : ℕ → Result ℕ Refusal
  start_answer id = answer (ask_refusal book id) (start_of (plan_rows book) (place_in book id))

  abbrev pub level_answer : ℕ → Result ℕ Refusal
  level_answer id = answer (ask_refusal book id) (level_of (plan_rows book) (place_in book id))

  abbrev pub Responded : ℕ → Result ℕ Refusal → Type 0
  Responded id = AnswersWith (ask_refusal book id) (RespondsAt (plan_rows book) (place_in book id))

  -- a task's reckoned response
  abbrev pub Reckoned : Meaning → Reckoning → ℕ → Result (Option ℕ) Refusal → Type 0
  Reckoned M N id = AnswersWith (ask_refusal book id) (ReckonedIn M N (plan_rows book) (place_in book id))

-- the sheet of a plan fills the front of a buffer, if it has room for it; the rest of the buffer stays
pub record Filed (rows : List SheetRow) (before : List ℕ) (r : Result ℕ Refusal) (after : List ℕ) : Type 0 where
  pub answered : r ≡ answer (refuse_if (nat_lt (length before) (sheet_length (length rows))) ListTooShort) (sheet_length (length rows))
  pub written : after ≡ overwritten rows before

-- the same of the plan that stands; where none does, the buffer stays
abbrev pub Stored : Option (List SheetRow) → List ℕ → Result ℕ Refusal → List ℕ → Type 0
Stored None before r after = (r ≡ Err NoStandingPlan) × (after ≡ before)
Stored (Some rows) before r after = Filed rows before r after

-- the chart of a window of the plan that stands; where none does, the list stays
abbrev pub PlanCharted : Option (List SheetRow) → ℕ → ℕ → EntryList Bar → Result (Unit {0}) Refusal → EntryList Bar → Type 0
PlanCharted None from to before r after = (r ≡ Err NoStandingPlan) × (after ≡ before)
PlanCharted (Some rows) from to before r after = Charted rows from to before r after
