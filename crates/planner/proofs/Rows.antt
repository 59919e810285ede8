-- Rows of a table with starts, and the case that they form.
use Rattle.std.proofs.Common.{◌≡◌, ℕ, zero, suc, ◌<◌, ◌≤◌, List, [], ◌∷◌, map, length, get_or, None, sym, refl, ap, ◌∙◌, subst, arith}
use lib.ListN.{length-map}
use Rattle.std.specs.List.{AllByRecursion as All}
use Rattle.std.proofs.lemmas.List.{get_or-map}
use Rattle.std.proofs.lemmas.Bool.Decides.{nat_tests}
use Rattle.periods.specs.Listed.{choices_refusal, number_of_choices, choice_of, start_of}
use Rattle.periods.specs.Lists.{in_places}
use Rattle.periods.specs.Multiples.{most_tasks, longest_common_period, common_period, Proper}
use Rattle.periods.proofs.Ranks.{in_places_at, listed_below_period, ranks_list_the_choices}
use Rattle.tasks.specs.declared.figures.Figures.{Figures}
use Rattle.tasks.specs.declared.rows.Row.{Row}
use Rattle.tasks.specs.Figures.{Fair}
use Rattle.tasks.specs.Loads.{periods_in}
use Rattle.tasks.specs.Timed.{Sound, figures_given, case_refusal}
use Rattle.tasks.proofs.Timely.{none_from_sound}
use Rattle.timeline.specs.Laws.{AllFair}
use Rattle.short_list.proofs.Collected.{paired}
use Rattle.planner.specs.Plans.{timed}
use Rattle.planner.proofs.Fairness.{rows_fair}

abbrev pub figures_at : List Row → List Figures
figures_at rows = map (λ row. row.figures) rows

abbrev pub periods_at : List Row → List ℕ
periods_at rows = periods_in (figures_at rows)

pub length-timed : (rows : List Row) (starts : ℕ → ℕ) → length (timed rows starts) ≡ length rows
length-timed [] starts = refl
length-timed (row ∷ rows) starts = ap suc (length-timed rows (λ place. starts (suc place)))

pub timed_figures : (rows : List Row) (starts : ℕ → ℕ) → figures_given (timed rows starts) ≡ figures_at rows
timed_figures [] starts = refl
timed_figures (row ∷ rows) starts = ap (λ all. row.figures ∷ all) (timed_figures rows (λ place. starts (suc place)))

pub timed_start :
    (rows : List Row) (starts : ℕ → ℕ) (q : ℕ) → q < length rows → get_or (map (λ row. row.start) (timed rows starts)) q 0 ≡ starts q
timed_start [] starts q below = absurd (omega arith)
timed_start (row ∷ rows) starts zero below = refl
timed_start (row ∷ rows) starts (suc q) below = timed_start rows (λ place. starts (suc place)) q (omega arith)

pub fair_timed : (rows : List Row) (starts : ℕ → ℕ) → All (λ row. Fair row.figures) rows → All (λ row. Fair row.figures) (timed rows starts)
fair_timed [] starts fair = tt
fair_timed (row ∷ rows) starts fair = (fair.0, fair_timed rows (λ place. starts (suc place)) fair.1)

pub timely_timed :
    (rows : List Row) (starts : ℕ → ℕ) →
    ((q : ℕ) → q < length rows → starts q < get_or (periods_at rows) q 0) →
    All (λ row. row.start < row.figures.period) (timed rows starts)
timely_timed [] starts below = tt
timely_timed (row ∷ rows) starts below =
    (below 0 (omega arith), timely_timed rows (λ place. starts (suc place)) (λ q inside. below (suc q) (omega arith)))

pub proper_periods : (tasks : List Figures) → AllFair tasks → Proper (periods_in tasks)
proper_periods tasks fair q below =
    let held : q < length tasks = omega (arith, length-map tasks (λ task. task.period)) in
    let is = get_or-map (λ task. task.period) tasks q (record { work = 0; period = 0; deadline = 0 }) 0 held in
    (omega (arith, fair q held), omega (arith, fair q held))

pub period_known : (ts : List ℕ) → choices_refusal ts ≡ None → (1 ≤ length ts) × (common_period ts ≤ longest_common_period)
period_known ts none = (grind (arith, nat_tests), grind (arith, nat_tests))

-- with a listed choice of starts the rows are sound, and form a case
module _
    (rows : List Row) (rank : ℕ) (few : length rows ≤ most_tasks) (fair : All (λ row. Fair row.figures) rows)
    (none : choices_refusal (periods_at rows) ≡ None) (below : rank < number_of_choices (periods_at rows)) where
  choice_sound : Sound (timed rows (start_of (in_places (choice_of (periods_at rows) rank))))
  choice_sound =
      let ts = periods_at rows in
      let starts = start_of (in_places (choice_of ts rank)) in
      let known = period_known ts none in
      let long = length-timed rows starts in
      let many : length ts ≡ length rows =
      length-map (figures_at rows) (λ task. task.period) ∙ length-map rows (λ row. row.figures) in
      record {
        some = omega (arith, known.0);
        few = omega arith;
        fair = fair_timed rows starts fair;
        timely =
            timely_timed rows starts
            (λ q held.
            omega (
              arith,
              in_places_at (choice_of ts rank) q,
              listed_below_period ts (choice_of ts rank) q
                  (proper_periods (figures_at rows) (rows_fair (λ row. row.figures) rows fair))
                  ((ranks_list_the_choices ts).listed rank below) (omega arith),
            ));
        short = rw (timed_figures rows starts) known.1;
      }

  pub choice_forms :
      (starts : List ℕ) → starts ≡ in_places (choice_of (periods_at rows) rank) → case_refusal (timed rows (start_of starts)) ≡ None
  choice_forms starts chosen =
      let Forms : List ℕ → Type 0 = λ all. Sound (timed rows (start_of all)) in
      none_from_sound (timed rows (start_of starts)) (subst Forms (sym chosen) choice_sound)

-- rows side by side with starts that are no fewer
pub timed_pairs :
    (rows : List Row) (starts : List ℕ) → length rows ≤ length starts →
    paired (λ row start. record { figures = row.figures; start = start }) rows starts ≡ timed rows (start_of starts)
timed_pairs [] starts long = refl
timed_pairs (row ∷ rows) [] long = absurd (omega arith)
timed_pairs (row ∷ rows) (start ∷ starts) long =
    ap (λ rest. record { figures = row.figures; start = start } ∷ rest) (timed_pairs rows starts (omega arith))
