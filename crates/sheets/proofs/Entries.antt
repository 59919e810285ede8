-- The search for the first wrong entry, and what it says where there is none.
use Rattle.std.proofs.Common.{◌≡◌, ℕ, ◌+◌, ◌≤◌, ◌||◌, eqb, ltb, List, [], ◌∷◌, ◌++◌, map, length, Some, None, Ok, Err, Option, Result, refl, ap, ◌∙◌, arith}
use lib.ListN.{length-map}
use Rattle.std.specs.Option.{option_map, option_or}
use Rattle.std.specs.Result.{result_err}
use Rattle.std.specs.Bool.{then_some}
use Rattle.std.specs.List.{AllByRecursion as All, list_any}
use Rattle.std.proofs.lemmas.Bool.Decides.{nat_tests}
use Rattle.refusals.specs.Answers.{answer}
use Rattle.refusals.specs.declared.Refusal.{Refusal}
use Rattle.periods.specs.Multiples.{longest_common_period, common_period, period_refusal}
use Rattle.tasks.specs.Loads.{periods_in}
use Rattle.tasks.specs.Timed.{figures_given}
use Rattle.sheets.specs.Checks.{timed_in, levels_in, is_in, first_wrong, period_fault}
use Rattle.sheets.specs.declared.fault.EntryFault.{EntryFault}
use Rattle.sheets.specs.declared.fault.SheetFault.TheVariants.{LongCommonPeriod}
use Rattle.sheets.specs.declared.fault.WrongEntry.{WrongEntry}
use Rattle.sheets.specs.declared.row.SheetRow.{SheetRow}

-- an entry with its place
abbrev placed : ℕ → EntryFault → WrongEntry
placed place fault = record { place = place; fault = fault }

module _ (check : List SheetRow → SheetRow → Option EntryFault) where
  -- no entry is wrong exactly where the first is right and none of the others is wrong
  pub none_parts :
      (earlier : List SheetRow) (row : SheetRow) (rows : List SheetRow) → first_wrong check earlier (row ∷ rows) ≡ None →
      (check earlier row ≡ None) × (first_wrong check (earlier ++ row ∷ []) rows ≡ None)
  none_parts earlier row rows none = go (check earlier row) none
    where
      go :
          (found : Option EntryFault) →
          option_or (option_map (placed (length earlier + 1)) found) (first_wrong check (earlier ++ row ∷ []) rows) ≡ None →
          (found ≡ None) × (first_wrong check (earlier ++ row ∷ []) rows ≡ None)
      go None e = (refl, e)
      go (Some fault) e = absurd (grind arith)

  pub none_from_parts :
      (earlier : List SheetRow) (row : SheetRow) (rows : List SheetRow) → check earlier row ≡ None →
      first_wrong check (earlier ++ row ∷ []) rows ≡ None → first_wrong check earlier (row ∷ rows) ≡ None
  none_from_parts earlier row rows right none =
      ap (λ found. option_or (option_map (placed (length earlier + 1)) found) (first_wrong check (earlier ++ row ∷ []) rows)) right ∙ none

  module _ (P : SheetRow → Type 0) where
    pub all_from_none :
        ((earlier : List SheetRow) (row : SheetRow) → check earlier row ≡ None → P row) →
        (earlier rows : List SheetRow) → first_wrong check earlier rows ≡ None → All P rows
    all_from_none says earlier [] none = tt
    all_from_none says earlier (row ∷ rows) none =
        let parts = none_parts earlier row rows none in
        (says earlier row parts.0, all_from_none says (earlier ++ row ∷ []) rows parts.1)

    pub none_from_all :
        ((earlier : List SheetRow) (row : SheetRow) → P row → check earlier row ≡ None) →
        (earlier rows : List SheetRow) → All P rows → first_wrong check earlier rows ≡ None
    none_from_all says earlier [] all = refl
    none_from_all says earlier (row ∷ rows) all =
        none_from_parts earlier row rows (says earlier row all.0) (none_from_all says (earlier ++ row ∷ []) rows all.1)

-- a level that a row has is in the levels of the rows
pub level_is_in : (level : ℕ) (rows : List SheetRow) → is_in level (levels_in rows) ≡ list_any (λ row. eqb level row.level) rows
level_is_in level [] = refl
level_is_in level (row ∷ rows) = ap (λ found. eqb level row.level || found) (level_is_in level rows)

-- the common period
pub figures_timed : (rows : List SheetRow) → figures_given (timed_in rows) ≡ map (λ row. row.figures) rows
figures_timed [] = refl
figures_timed (row ∷ rows) = ap (λ tasks. row.figures ∷ tasks) (figures_timed rows)

module _ (ts : List ℕ) (rows : List SheetRow) (gathered : ts ≡ periods_in (figures_given (timed_in rows))) where
  same_period : then_some (ltb longest_common_period (common_period ts)) LongCommonPeriod ≡ period_fault rows
  same_period =
      ap (λ all. then_some (ltb longest_common_period (common_period all)) LongCommonPeriod) gathered

  -- a common period is refused where it is too long, since there is a row
  pub period_found :
      (common : Result ℕ Refusal) → 1 ≤ length rows → common ≡ answer (period_refusal ts) (common_period ts) →
      option_map (λ _. LongCommonPeriod) (result_err common) ≡ period_fault rows
  period_found (Ok common) some is = grind (arith, nat_tests) ∙ same_period
  period_found (Err refusal) some is =
      let long : length ts ≡ length rows =
      ap length gathered ∙ length-map (figures_given (timed_in rows)) (λ task. task.period) ∙ ap length (figures_timed rows) ∙ length-map rows (λ row. row.figures) in
      grind (arith, nat_tests) ∙ same_period
