-- The laws of a margin, from those of the judge below.
use Rattle.std.specs.Prelude.{◌≡◌, ℕ, ◌+◌, ◌<◌, ◌≤◌, Bool, true, cond, ◌⊎◌, List, length, ◌≢◌, refl}
use Rattle.std.proofs.Common.{sym, ap, ◌∙◌, subst, inl, inr, mul-le-mul_left, le-div_iff_mul-le, arith}
use Rattle.std.proofs.Math.Arith.{digits_div}
use Rattle.std.proofs.lemmas.List.FromFn.{length-map-range_with_len, get_or-map-range_with_len}
use Rattle.std.proofs.lemmas.List.{get_or_default, get_or-map, same_lists, length-map}
use Rattle.std.proofs.lemmas.Bool.{cases_eq, cond-true, cond_both, or_left, or_right, eq-eqb}
use Rattle.std.proofs.lemmas.Bool.Decides.{nat_tests}
use Rattle.periods.specs.Listed.{Related}
use Rattle.tasks.specs.declared.figures.Figures.{Figures}
use Rattle.tasks.specs.Figures.{Fair}
use Rattle.tasks.specs.Loads.{periods_in}
use Rattle.timeline.specs.Laws.{AllFair}
use Rattle.timeline.specs.Timeline.{task_at, below_those}
use Rattle.timeline.proofs.Laws.{less_law}
use Rattle.judges.specs.Margin.{stretch, concerns, stretched_task, stretched, StretchFits, NoMargin, WithMargin, ReckonsWithMargin}
use Rattle.judges.specs.Meaning.{Meaning, Reckoning, SameAt, Lawful, Measured}
use Rattle.judges.specs.Above.{alone_below, Fewer, lawful_if_stays, stays_if_lawful}

-- the task past the end
abbrev nobody : Figures
nobody = record { work = 0; period = 0; deadline = 0 }

stretch_most : (percent work : ℕ) → work ≤ stretch percent work
stretch_most percent work =
    (le-div_iff_mul-le {k = 100} (omega arith)).1 (let m = mul-le-mul_left work (let l : 100 ≤ 100 + percent = omega arith in l) in omega arith)

length_periods : (tasks : List Figures) → length (periods_in tasks) ≡ length tasks
length_periods tasks = length-map tasks (λ task. task.period)

module _ (percent : ℕ) (tasks : List Figures) (judged : ℕ) (above : ℕ → Bool) where
  pub length-stretched : length (stretched percent tasks judged above) ≡ length tasks
  length-stretched = length-map-range_with_len _ 0 (length tasks)

  stretched_at :
      (q : ℕ) → q < length tasks →
      task_at (stretched percent tasks judged above) q ≡ cond (concerns judged above q) (stretched_task percent (task_at tasks q)) (task_at tasks q)
  stretched_at q inside = get_or-map-range_with_len _ 0 (length tasks) q q _ inside (omega arith)

  -- what holds of a stretched task and of any other holds of each
  stretched_by :
      (P : Figures → Type 0) (q : ℕ) → q < length tasks →
      (concerns judged above q ≡ true → P (stretched_task percent (task_at tasks q))) → P (task_at tasks q) → P (task_at (stretched percent tasks judged above) q)
  stretched_by P q inside more same =
      subst P (sym (stretched_at q inside)) (cond_both (concerns judged above q) _ _ P more (λ _. same))

  pub stretched_concerned :
      (q : ℕ) → q < length tasks → concerns judged above q ≡ true →
      task_at (stretched percent tasks judged above) q ≡ stretched_task percent (task_at tasks q)
  stretched_concerned q inside is = stretched_at q inside ∙ cond-true (concerns judged above q) _ _ is

  pub stretched_fair : AllFair tasks → StretchFits percent tasks judged above → AllFair (stretched percent tasks judged above)
  stretched_fair fair fits q l =
      let inside : q < length tasks = omega (arith, length-stretched) in
      let f = fair q inside in
      stretched_by Fair q inside
      (λ is. let more = stretch_most percent (task_at tasks q).work in (omega arith, fits q inside is, f.2, f.3)) f

  work_stretched : (q : ℕ) → q < length tasks → (task_at tasks q).work ≤ (task_at (stretched percent tasks judged above) q).work
  work_stretched q inside =
      stretched_by (λ task. (task_at tasks q).work ≤ task.work) q inside (λ _. stretch_most percent (task_at tasks q).work) (omega arith)

  period_stretched : (q : ℕ) → q < length tasks → (task_at (stretched percent tasks judged above) q).period ≡ (task_at tasks q).period
  period_stretched q inside = stretched_by (λ task. task.period ≡ (task_at tasks q).period) q inside (λ _. refl) refl

  deadline_stretched : (q : ℕ) → q < length tasks → (task_at (stretched percent tasks judged above) q).deadline ≡ (task_at tasks q).deadline
  deadline_stretched q inside = stretched_by (λ task. task.deadline ≡ (task_at tasks q).deadline) q inside (λ _. refl) refl

  pub periods_stretched : periods_in (stretched percent tasks judged above) ≡ periods_in tasks
  periods_stretched =
      same_lists _ _ (length_periods (stretched percent tasks judged above) ∙ length-stretched ∙ sym (length_periods tasks))
      (λ q d l.
      let inside : q < length tasks = omega (arith, length_periods (stretched percent tasks judged above), length-stretched) in
      get_or-map (λ task. task.period) (stretched percent tasks judged above) q nobody d (omega (arith, length-stretched))
      ∙ period_stretched q inside
      ∙ sym (get_or-map (λ task. task.period) tasks q nobody d inside))

-- places that stay above keep their stretched tasks
module _ (percent : ℕ) (tasks tasks' : List Figures) (starts starts' : ℕ → ℕ) (judged : ℕ) (above above' : ℕ → Bool)
    (inside : judged < length tasks) (fewer : Fewer tasks tasks' starts starts' judged above above') where
  same_stretched :
      (q : ℕ) → q < length tasks → q < length tasks' → concerns judged above q ≡ true → concerns judged above' q ≡ true →
      SameAt tasks tasks' starts starts' q → SameAt (stretched percent tasks judged above) (stretched percent tasks' judged above') starts starts' q
  same_stretched q l l' is is' same =
      record {
        task =
            stretched_concerned percent tasks judged above q l is
            ∙ ap (stretched_task percent) same.task
            ∙ sym (stretched_concerned percent tasks' judged above' q l' is');
        start = same.start;
      }

  own : (other : ℕ → Bool) → concerns judged other judged ≡ true
  own other = or_left _ _ (eq-eqb judged judged refl)

  fewer_stretched : Fewer (stretched percent tasks judged above) (stretched percent tasks' judged above') starts starts' judged above above'
  fewer_stretched =
      record {
        inside = omega (arith, fewer.inside, length-stretched percent tasks' judged above');
        same = same_stretched judged inside fewer.inside (own above) (own above') fewer.same;
        kept = λ q is.
            let held : q < length tasks' = omega (arith, is.held, length-stretched percent tasks' judged above') in
            let kept = fewer.kept q (record { held = held; other = is.other; chosen = is.chosen }) in (
              record {
                held = omega (arith, kept.0.held, length-stretched percent tasks judged above);
                other = is.other;
                chosen = kept.0.chosen;
              },
              same_stretched q kept.0.held held (or_right _ _ kept.0.chosen) (or_right _ _ is.chosen) kept.1,
            );
      }

  fits_still : StretchFits percent tasks judged above → StretchFits percent tasks' judged above'
  fits_still fits q l is = go (cases_eq q judged)
    where
      at : SameAt tasks tasks' starts starts' q → q < length tasks → concerns judged above q ≡ true → stretch percent (task_at tasks' q).work ≤ (task_at tasks' q).deadline
      at same held concerned = subst (λ task. stretch percent task.work ≤ task.deadline) same.task (fits q held concerned)

      go : (q ≡ judged) ⊎ (q ≢ judged) → stretch percent (task_at tasks' q).work ≤ (task_at tasks' q).deadline
      go (inl e) = at (subst (λ p. SameAt tasks tasks' starts starts' p) (sym e) fewer.same) (omega arith) (or_left _ _ (eq-eqb q judged e))
      go (inr ne) =
          let kept = fewer.kept q (record { held = l; other = ne; chosen = grind (arith, nat_tests) }) in
          at kept.1 kept.0.held (or_right _ _ kept.0.chosen)

module _ (percent : ℕ) (M : Meaning) (lawful : Lawful M) where
  placed_below : (tasks : List Figures) (starts : ℕ → ℕ) (judged : ℕ) (above : ℕ → Bool) → M (stretched percent tasks judged above) starts judged above → judged < length tasks
  placed_below tasks starts judged above ruled =
      omega (arith, lawful.placed (stretched percent tasks judged above) starts judged above ruled, length-stretched percent tasks judged above)

  pub margin_lawful : Lawful (WithMargin percent M)
  margin_lawful =
      lawful_if_stays (WithMargin percent M) (λ tasks starts judged above ruled. placed_below tasks starts judged above ruled.1)
      (λ tasks tasks' starts starts' judged above above' fair fair' fewer ruled.
      let inside = placed_below tasks starts judged above ruled.1 in
      let fits = fits_still percent tasks tasks' starts starts' judged above above' inside fewer ruled.0 in (
        fits,
        stays_if_lawful M lawful (stretched percent tasks judged above) (stretched percent tasks' judged above') starts starts' judged above above'
            (stretched_fair percent tasks judged above fair ruled.0) (stretched_fair percent tasks' judged above' fair' fits)
            (fewer_stretched percent tasks tasks' starts starts' judged above above' inside fewer) ruled.1,
      ))
      (λ tasks starts judged above fair ruled k late.
      let more = stretched percent tasks judged above in
      let fair' = stretched_fair percent tasks judged above fair ruled.0 in
      let long = length-stretched percent tasks judged above in
      let inside = placed_below tasks starts judged above ruled.1 in
      lawful.sound more starts judged above fair' ruled.1 k
      (less_law more fair' tasks (sym long) fair
      (λ p l.
      let held : p < length tasks = omega arith in
      (work_stretched percent tasks judged above p held, sym (period_stretched percent tasks judged above p held)))
      starts (below_those judged above) (below_those judged above) judged (omega arith) (sym (deadline_stretched percent tasks judged above judged inside))
      (alone_below more judged above) (alone_below more judged above) (λ p l higher. higher) k late))
      (λ tasks starts starts' judged above fair rel ruled. (
        ruled.0,
        lawful.related (stretched percent tasks judged above) starts starts' judged above (stretched_fair percent tasks judged above fair ruled.0)
            (subst (λ periods. Related periods starts starts') (sym (periods_stretched percent tasks judged above)) rel) ruled.1,
      ))

  pub margin_measured : (N : Reckoning) → Measured M N → Measured (WithMargin percent M) (ReckonsWithMargin percent N)
  margin_measured N measured =
      record {
        ruled = λ tasks starts judged above n is. (is.0, measured.ruled (stretched percent tasks judged above) starts judged above n is.1);
        one = λ tasks starts judged above n other is is'. measured.one (stretched percent tasks judged above) starts judged above n other is.1 is'.1;
        within = λ tasks starts judged above n fair is.
            let more = stretched percent tasks judged above in
            let inside = placed_below tasks starts judged above (measured.ruled more starts judged above n is.1) in
            let range = measured.within more starts judged above n (stretched_fair percent tasks judged above fair is.0) is.1 in (
              omega (arith, work_stretched percent tasks judged above judged inside),
              omega (arith, deadline_stretched percent tasks judged above judged inside),
            );
      }

-- a hundred percent of the work is the work
stretch_none : (work : ℕ) → stretch 0 work ≡ work
stretch_none work = digits_div work {m = 100} {r = 99} (omega arith)

pub no_margin : NoMargin
no_margin tasks judged above fair = (
  (λ q l is. let f = fair q l in let e = stretch_none (task_at tasks q).work in omega arith),
  same_lists _ _ (length-stretched 0 tasks judged above)
      (λ q d l.
      let inside : q < length tasks = omega (arith, length-stretched 0 tasks judged above) in
      get_or-map-range_with_len _ 0 (length tasks) q q d inside (omega arith)
      ∙ cond_both (concerns judged above q) _ _ (λ (task : Figures). task ≡ task_at tasks q)
      (λ _. ap (λ work. record { work = work; period = (task_at tasks q).period; deadline = (task_at tasks q).deadline }) (stretch_none (task_at tasks q).work))
      (λ _. refl)
      ∙ get_or_default tasks q nobody d inside),
)
