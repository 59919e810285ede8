-- A plan's case, judged place by place, against its rows.
use Rattle.std.proofs.Common.{◌≡◌, ℕ, ◌<◌, ◌≤◌, Bool, true, ltb, ◌⊎◌, List, map, length, get_or, is_some, Some, None, Option, refl, ap, ◌∙◌, subst, inl, inr, arith}
use mathlib.Core.Path.{fun_ext}
use lib.ListN.{length-map}
use Rattle.std.proofs.lemmas.Bool.Decides.{nat_tests}
use Rattle.tasks.specs.Cases.{timed_of, starts_of, tasks_of as tasks_of_case}
use Rattle.tasks.specs.Places.{has}
use Rattle.tasks.specs.Timed.{figures_given}
use Rattle.tasks.specs.declared.case.Case.{Case}
use Rattle.tasks.specs.declared.figures.Figures.{Figures}
use Rattle.tasks.specs.declared.judged.Judged.{Judged}
use Rattle.tasks.specs.declared.places.Places.{Places}
use Rattle.timeline.specs.Laws.{Alone}
use Rattle.timeline.specs.Timeline.{InTimeBelow, Late, WorstResponse, below_those}
use Rattle.lateness.specs.Below.{Responds}
use Rattle.charts.specs.Plans.{tasks_of, start_of, level_of}
use Rattle.sheets.specs.Checks.{Different, timed_in, levels_in}
use Rattle.sheets.specs.declared.row.SheetRow.{SheetRow}
use Rattle.book.specs.Plans.{above}
use Rattle.book.specs.Punctual.{NoneLate}
use Rattle.book.proofs.Below.{late_in_order, response_in_order}
use Rattle.book.proofs.Planning.{length-tasks_of}
use Rattle.book.proofs.Rows.{starts_of_lem}

-- what holds of a judged task holds of the case, the place and the set that it was made of
pub of_judged :
    (judged : Judged) (case : Case) (place : ℕ) (above : Places) → judged.case.now ≡ case → judged.place ≡ place → judged.above.now ≡ above →
    (P : Case → ℕ → Places → Type 0) → P judged.case.now judged.place judged.above.now → P case place above
of_judged judged case place above same-case same_place same-above P holds =
    let OfCase : Case → Type 0 = λ x. P x judged.place judged.above.now in
    let OfPlace : ℕ → Type 0 = λ x. P case x judged.above.now in
    let OfAbove : Places → Type 0 = λ x. P case place x in
    subst OfAbove same-above (subst OfPlace same_place (subst OfCase same-case holds))

-- the case of some rows, and the places of smaller level
module _
    (rows : List SheetRow) (place : ℕ) (case : Case) (is : timed_of case ≡ timed_in rows) (places : Places)
    (smaller : (other : ℕ) → has places other ≡ above rows place other) where
  same_starts : starts_of case ≡ start_of rows
  same_starts =
      ap (λ timed q. get_or (map (λ row. row.start) timed) q 0) is ∙ ap (λ starts q. get_or starts q 0) (starts_of_lem rows)

  -- what holds of the case and these places holds of the rows
  pub of_rows :
      (P : List Figures → (ℕ → ℕ) → (ℕ → Bool) → Type 0) → P (tasks_of_case case) (starts_of case) (has places) →
      P (tasks_of rows) (start_of rows) (above rows place)
  of_rows P holds =
      let Tasks : List Figures → Type 0 = λ tasks. P tasks (starts_of case) (has places) in
      let Starts : (ℕ → ℕ) → Type 0 = λ starts. P (tasks_of rows) starts (has places) in
      let Above : (ℕ → Bool) → Type 0 = λ set. P (tasks_of rows) (start_of rows) set in
      subst Above (fun_ext smaller) (subst Starts same_starts (subst Tasks (ap figures_given is) holds))

  module _ (inside : place < length rows) (different : Different (levels_in rows)) where
    alone : Alone (tasks_of rows) (level_of rows) place
    alone p below same =
        let long = length-tasks_of rows in
        let many = length-map rows (λ row. row.level) in
        different p place (omega arith) (omega arith) same

    of_smaller : (p : ℕ) → p < length (tasks_of rows) → (p ≡ place → ⊥) → above rows place p ≡ ltb (level_of rows p) (level_of rows place)
    of_smaller p below other = let long = length-tasks_of rows in grind (arith, nat_tests)

    abbrev RespondsAt : List Figures → (ℕ → ℕ) → (ℕ → Bool) → Option ℕ → Type 0
    RespondsAt tasks starts set (Some response) =
        (place < length tasks) × InTimeBelow tasks starts place set × WorstResponse tasks starts (below_those place set) place response
    RespondsAt tasks starts set None = (length tasks ≤ place) ⊎ ((k : ℕ) × Late tasks starts (below_those place set) place k)

    told : (r : Option ℕ) → Responds case place places r → RespondsAt (tasks_of rows) (start_of rows) (above rows place) r
    told None responds = of_rows (λ tasks starts set. RespondsAt tasks starts set None) responds
    told (Some response) responds = of_rows (λ tasks starts set. RespondsAt tasks starts set (Some response)) responds

    -- where nobody is late there is a worst response, that of the timeline of all the tasks
    pub responds_some : NoneLate rows → (r : Option ℕ) → Responds case place places r → is_some r ≡ true
    responds_some never (Some response) responds = refl
    responds_some never None responds =
        let long = length-tasks_of rows in
        elim (told None responds) [
          | inl past ↦ absurd (omega arith)
          | inr late ↦
              absurd
              (never place inside late.0
              (late_in_order (tasks_of rows) (start_of rows) (level_of rows) place (above rows place) (omega arith) alone of_smaller late.0 late.1))
        ]

    pub responds_worst :
        (r : Option ℕ) (response : ℕ) → r ≡ Some response → Responds case place places r →
        WorstResponse (tasks_of rows) (start_of rows) (level_of rows) place response
    responds_worst r response is responds =
        let long = length-tasks_of rows in
        let Of : Option ℕ → Type 0 = Responds case place places in
        response_in_order (tasks_of rows) (start_of rows) (level_of rows) place (above rows place) (omega arith) alone of_smaller response
        (told (Some response) (subst Of is responds)).2
