-- The margin's way to the stretched case.
use Rattle.std.proofs.Common.{◌≡◌, ℕ, ◌+◌, ◌<◌, ◌≤◌, Bool, true, false, cond, List, [], ◌∷◌, ◌++◌, map, length, get_or, Some, None, Ok, Err, Option, Result, sym, refl, ap, ap₂, ◌∙◌, subst, arith}
use lib.ListN.{length-map}
use Rattle.std.specs.List.{range_with_len}
use Rattle.std.specs.Result.{result_ok}
use Rattle.std.proofs.lemmas.List.FromFn.{length-map-range_with_len, get_or-map-range_with_len, map-range_with_len_more}
use Rattle.std.proofs.ByRecursion.{All-get_or, All-from_get_or}
use Rattle.std.proofs.lemmas.List.{get_or-map, same_lists}
use Rattle.std.proofs.lemmas.Bool.{cond_both}
use Rattle.refusals.specs.declared.Refusal.{Refusal}
use Rattle.periods.specs.Multiples.{longest_common_period, common_period}
use Rattle.tasks.specs.declared.case.Case.{Case}
use Rattle.tasks.specs.declared.figures.Figures.{Figures}
use Rattle.tasks.specs.declared.judged.Judged.{Judged}
use Rattle.tasks.specs.declared.rows.Timed.{Timed}
use Rattle.tasks.specs.Cases.{timed_of, Formed}
use Rattle.tasks.specs.Figures.{Fair}
use Rattle.tasks.specs.Loads.{periods_in}
use Rattle.tasks.specs.Places.{has}
use Rattle.tasks.specs.Timed.{Sound, figures_given, case_refusal}
use Rattle.timeline.specs.Laws.{AllFair}
use Rattle.timeline.specs.Timeline.{task_at}
use Rattle.judges.specs.Margin.{concerns, stretched_task, stretched, StretchFits, StretchedCase, WithMargin, ReckonsWithMargin}
use Rattle.judges.specs.Meaning.{Meaning, Reckoning, Rules, Tells, MeaningAt, ReckonedAt, tasks_of, starts_of}
use Rattle.judges.specs.MarginLaws.{length-stretched, stretched_concerned, stretched_fair, periods_stretched}
use Rattle.judges.proofs.Rows.{blank, task_of_row, tasks_fair}

-- a row with its work stretched
abbrev pub stretched_row : ℕ → Timed → Timed
stretched_row percent row = record { figures = stretched_task percent row.figures; start = row.start }

module _ (percent : ℕ) (rows : List Timed) (judged : ℕ) (above : ℕ → Bool) where
  abbrev pub changed_row : ℕ → Timed
  changed_row q = cond (concerns judged above q) (stretched_row percent (get_or rows q blank)) (get_or rows q blank)

  abbrev pub changed_rows : List Timed
  changed_rows = map changed_row (range_with_len 0 (length rows))

  length_changed : length changed_rows ≡ length rows
  length_changed = length-map-range_with_len changed_row 0 (length rows)

  row_changed : (q : ℕ) → q < length rows → get_or changed_rows q blank ≡ changed_row q
  row_changed q inside = get_or-map-range_with_len changed_row 0 (length rows) q q blank inside (omega arith)

  -- one row more
  pub changed_more :
      (place : ℕ) (before after : List Timed) (row : Timed) → before ≡ map changed_row (range_with_len 0 place) → row ≡ changed_row place →
      after ≡ before ++ row ∷ [] → after ≡ map changed_row (range_with_len 0 (place + 1))
  changed_more place before after row front is pushed =
      pushed ∙ ap₂ (λ rows row. rows ++ row ∷ []) front is ∙ sym (map-range_with_len_more changed_row 0 place place (omega arith))

  figures_changed : figures_given changed_rows ≡ stretched percent (figures_given rows) judged above
  figures_changed =
      same_lists _ _ (length-map changed_rows (λ row. row.figures) ∙ length_changed ∙ sym long ∙ sym (length-stretched percent (figures_given rows) judged above))
      (λ q d l.
      let inside : q < length rows = omega (arith, length-map changed_rows (λ row. row.figures), length_changed) in
      get_or-map (λ row. row.figures) changed_rows q blank d (omega (arith, length_changed))
      ∙ ap (λ row. row.figures) (row_changed q inside)
      ∙ at (concerns judged above q) (get_or rows q blank) (task_at (figures_given rows) q) (task_of_row rows q inside)
      ∙ sym (get_or-map-range_with_len _ 0 (length (figures_given rows)) q q d (omega (arith, long)) (omega arith)))
    where
      long : length (figures_given rows) ≡ length rows
      long = length-map rows (λ row. row.figures)

      at :
          (b : Bool) (row : Timed) (task : Figures) → task ≡ row.figures →
          (cond b (stretched_row percent row) row).figures ≡ cond b (stretched_task percent task) task
      at true row task e = ap (stretched_task percent) (sym e)
      at false row task e = sym e

  starts_changed : map (λ row. row.start) changed_rows ≡ map (λ row. row.start) rows
  starts_changed =
      same_lists _ _ (length-map changed_rows (λ row. row.start) ∙ length_changed ∙ sym (length-map rows (λ row. row.start)))
      (λ q d l.
      let inside : q < length rows = omega (arith, length-map changed_rows (λ row. row.start), length_changed) in
      get_or-map (λ row. row.start) changed_rows q blank d (omega (arith, length_changed))
      ∙ ap (λ row. row.start) (row_changed q inside)
      ∙ cond_both (concerns judged above q) _ _ (λ (row : Timed). row.start ≡ (get_or rows q blank).start) (λ _. refl) (λ _. refl)
      ∙ sym (get_or-map (λ row. row.start) rows q blank d inside))

  sound_if_fits : Sound rows → StretchFits percent (figures_given rows) judged above → Sound changed_rows
  sound_if_fits sound fits =
      record {
        some = omega (arith, sound.some, length_changed);
        few = omega (arith, sound.few, length_changed);
        fair = All-from_get_or (λ row. Fair row.figures) changed_rows blank
            (λ q l. subst Fair (task_of_row changed_rows q l) (fair q (omega (arith, length-map changed_rows (λ row. row.figures)))));
        timely = All-from_get_or (λ row. row.start < row.figures.period) changed_rows blank
            (λ q l.
            let inside : q < length rows = omega (arith, length_changed) in
            let before = All-get_or (λ row. row.start < row.figures.period) rows q blank inside sound.timely in
            subst (λ (row : Timed). row.start < row.figures.period) (sym (row_changed q inside))
            (cond_both (concerns judged above q) _ _ (λ (row : Timed). row.start < row.figures.period) (λ _. before) (λ _. before)));
        short = subst (λ periods. common_period periods ≤ longest_common_period)
            (sym (ap periods_in figures_changed ∙ periods_stretched percent (figures_given rows) judged above)) sound.short;
      }
    where
      fair : AllFair (figures_given changed_rows)
      fair = subst AllFair (sym figures_changed) (stretched_fair percent (figures_given rows) judged above (tasks_fair rows sound.fair) fits)

  fits_if_sound : Sound changed_rows → StretchFits percent (figures_given rows) judged above
  fits_if_sound sound q l is =
      let fair = subst AllFair figures_changed (tasks_fair changed_rows sound.fair) q (omega (arith, length-stretched percent (figures_given rows) judged above)) in
      (subst Fair (stretched_concerned percent (figures_given rows) judged above q l is) fair).1

-- forming a case of the changed rows is refused exactly if they do not fit
pub case_formed :
    (percent : ℕ) (judged : Judged) (rows given : List Timed) (r : Result Case Refusal) → rows ≡ timed_of judged.case.now →
    Sound rows → given ≡ changed_rows percent rows judged.place (has judged.above.now) → Formed given r →
    (case_refusal given ≡ None → Sound given) × (Sound given → case_refusal given ≡ None) → StretchedCase percent judged (result_ok r)
case_formed percent judged rows given (Ok changed) same sound as-given is both =
    let place = judged.place in
    let above = has judged.above.now in (
      subst (λ rows. StretchFits percent (figures_given rows) place above) same
          (fits_if_sound percent rows place above (subst Sound as-given (both.0 is.0))),
      ap figures_given (is.1 ∙ as-given)
          ∙ figures_changed percent rows place above
          ∙ ap (λ rows. stretched percent (figures_given rows) place above) same,
      ap starts_in (is.1 ∙ as-given) ∙ ap (λ starts q. get_or starts q 0) (starts_changed percent rows place above) ∙ ap starts_in same,
    )
  where
    starts_in : List Timed → ℕ → ℕ
    starts_in rows q = get_or (map (λ row. row.start) rows) q 0
case_formed percent judged rows given (Err refusal) same sound as-given is both =
    λ fits.
    let place = judged.place in
    let above = has judged.above.now in
    let fits' = subst (λ rows. StretchFits percent (figures_given rows) place above) (sym same) fits in
    let none = both.1 (subst Sound (sym as-given) (sound_if_fits percent rows place above sound fits')) in
    let z : ◌≡◌ {A = ℕ} 0 1 = cc in
    omega arith

-- what is meant, and what is reckoned, of the judged task in another case
abbrev pub MeaningIn : Meaning → Case → Judged → Type 0
MeaningIn M case judged = M (tasks_of case) (starts_of case) judged.place (has judged.above.now)

abbrev pub ReckonedIn : Reckoning → Case → Judged → ℕ → Type 0
ReckonedIn N case judged n = N (tasks_of case) (starts_of case) judged.place (has judged.above.now) n

-- the same task judged in the stretched case: what the judge below says of it, it says with the margin
module _ (percent : ℕ) (M : Meaning) (judged : Judged) where
  module _ (changed : Case) (stretches : StretchedCase percent judged (Some changed)) where
    -- what holds of the one holds of the other
    same_task :
        (K : Meaning) →
        MeaningIn K changed judged
        ≡ K (stretched percent (tasks_of judged.case.now) judged.place (has judged.above.now)) (starts_of judged.case.now) judged.place (has judged.above.now)
    same_task K = λ i. K (stretches.1 i) (stretches.2 i) judged.place (has judged.above.now)

    means : (K : Meaning) → MeaningIn K changed judged → MeaningAt (WithMargin percent K) judged
    means K holds = (stretches.0, subst (λ T. T) (same_task K) holds)

    meant : MeaningAt (WithMargin percent M) judged → MeaningIn M changed judged
    meant holds = subst (λ T. T) (sym (same_task M)) holds.1

    pub told_with_margin :
        (N : Reckoning) (told : Option ℕ) → Tells told (MeaningIn M changed judged) (ReckonedIn N changed judged) →
        Tells told (MeaningAt (WithMargin percent M) judged) (ReckonedAt (ReckonsWithMargin percent N) judged)
    told_with_margin N (Some n) reckoned = means (λ tasks starts place above. N tasks starts place above n) reckoned
    told_with_margin N None not = λ holds. not (meant holds)

    ruled : (r : Bool) → Rules r (MeaningIn M changed judged) → Rules r (MeaningAt (WithMargin percent M) judged)
    ruled true holds = means M holds
    ruled false not = λ holds. not (meant holds)

  -- no, where the case cannot be stretched
  pub ruled_with_margin :
      (case : Option Case) (r : Bool) → StretchedCase percent judged case → (case ≡ None → r ≡ false) →
      ((changed : Case) → case ≡ Some changed → Rules r (MeaningIn M changed judged)) →
      Rules r (MeaningAt (WithMargin percent M) judged)
  ruled_with_margin (Some changed) r stretches none some = ruled changed stretches r (some changed refl)
  ruled_with_margin None r stretches none some =
      subst (λ r. Rules r (MeaningAt (WithMargin percent M) judged)) (sym (none refl)) (λ holds. stretches holds.0)
