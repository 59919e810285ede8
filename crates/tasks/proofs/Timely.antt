-- Tasks with their starts: what the tests of a case say.
use Rattle.std.proofs.Common.{◌≡◌, ℕ, ◌<◌, ◌≤◌, Bool, true, false, ltb, List, [], ◌∷◌, length, None, Decides, Option, refl, ◌∙◌, arith}
use lib.ListN.{length-map}
use Rattle.std.specs.Option.{option_map}
use Rattle.std.specs.List.{AllByRecursion as All, list_any}
use Rattle.std.proofs.lemmas.Bool.{ltb-false, le-ltb}
use Rattle.std.proofs.lemmas.Bool.Decides.{nat_tests}
use Rattle.std.proofs.ByRecursion.{Decides-by_and}
use Rattle.refusals.specs.Answers.{or_else, refuse_if}
use Rattle.refusals.specs.declared.Refusal.{Refusal}
use Rattle.refusals.specs.declared.Refusal.TheVariants.{Figures as BadFigures, TooManyTasks, LateStart}
use Rattle.refusals.specs.declared.TaskFault.{TaskFault}
use Rattle.periods.specs.Multiples.{most_tasks, longest_common_period, common_period, period_refusal}
use Rattle.tasks.specs.declared.rows.Timed.{Timed}
use Rattle.tasks.specs.Figures.{Fair, first_fault}
use Rattle.tasks.specs.Loads.{periods_in}
use Rattle.tasks.specs.Timed.{Timely, is_timely, are_timely, Sound, first_fault_in, starts_late, figures_given, case_refusal}
use Rattle.tasks.proofs.Faults.{none_from_fair, fair_from_test, test_from_fair}

pub fair_from_no_fault : (rows : List Timed) → first_fault_in rows ≡ None → All (λ row. Fair row.figures) rows
unfolding first_fault_in
fair_from_no_fault [] none = tt
fair_from_no_fault (row ∷ rows) none =
    (grind (arith, nat_tests), fair_from_no_fault rows (grind (arith, nat_tests)))

timely_from_fair : (rows : List Timed) → All (λ row. Fair row.figures) rows → list_any starts_late rows ≡ false → All Timely rows
timely_from_fair [] fair none = tt
timely_from_fair (row ∷ rows) fair none =
    ((fair.0, grind (arith, nat_tests)), timely_from_fair rows fair.1 (grind (arith, nat_tests)))

no_fault_from_timely : (rows : List Timed) → All Timely rows → first_fault_in rows ≡ None
unfolding first_fault_in first_fault
no_fault_from_timely [] timely = refl
no_fault_from_timely (row ∷ rows) timely =
    let ih = no_fault_from_timely rows timely.1 in
    let none = none_from_fair row.figures timely.0.0 in grind (arith, nat_tests)

none_late_from_timely : (rows : List Timed) → All Timely rows → list_any starts_late rows ≡ false
none_late_from_timely [] timely = refl
none_late_from_timely (row ∷ rows) timely = let ih = none_late_from_timely rows timely.1 in grind (arith, nat_tests)

-- both facts of each row, and each of both
each_timely : (rows : List Timed) → All Timely rows → All (λ row. row.start < row.figures.period) rows
each_timely [] timely = tt
each_timely (row ∷ rows) timely = (timely.0.1, each_timely rows timely.1)

each_fair : (rows : List Timed) → All Timely rows → All (λ row. Fair row.figures) rows
each_fair [] timely = tt
each_fair (row ∷ rows) timely = (timely.0.0, each_fair rows timely.1)

pub all_timely : (rows : List Timed) → All (λ row. Fair row.figures) rows → All (λ row. row.start < row.figures.period) rows → All Timely rows
all_timely [] fair timely = tt
all_timely (row ∷ rows) fair timely = ((fair.0, timely.0), all_timely rows fair.1 timely.1)

-- the test of the rows says what it tests
pub decides_timely : (rows : List Timed) → Decides (are_timely rows) (All Timely rows)
decides_timely = Decides-by_and is_timely Timely are_timely each refl (λ _ _. refl)
  where
    each : (row : Timed) → Decides (is_timely row) (Timely row)
    each row = (
      λ test. (fair_from_test row.figures (grind (arith, nat_tests)), grind (arith, nat_tests)),
      λ timely. let test = test_from_fair row.figures timely.0 in grind (arith, nat_tests),
    )

-- nothing is refused only where each condition fails
parts :
    (fault : Option TaskFault) (many late : Bool) (period : Option Refusal) →
    or_else (option_map BadFigures fault) (or_else (refuse_if many TooManyTasks) (or_else period (refuse_if late LateStart))) ≡ None →
    (fault ≡ None) × (many ≡ false) × (period ≡ None) × (late ≡ false)
parts fault many late period none = (grind arith, grind arith, grind arith, grind arith)

period_none : (ts : List ℕ) → period_refusal ts ≡ None → (1 ≤ length ts) × (common_period ts ≤ longest_common_period)
period_none ts none = (grind (arith, nat_tests), grind (arith, nat_tests))

none_period : (ts : List ℕ) → 1 ≤ length ts → common_period ts ≤ longest_common_period → period_refusal ts ≡ None
none_period ts some short = grind (arith, nat_tests)

length_periods : (rows : List Timed) → length (periods_in (figures_given rows)) ≡ length rows
length_periods rows = length-map (figures_given rows) (λ task. task.period) ∙ length-map rows (λ row. row.figures)

pub fair_from_test_all : (rows : List Timed) → are_timely rows ≡ true → All (λ row. Fair row.figures) rows
fair_from_test_all rows test = each_fair rows ((decides_timely rows).0 test)

pub timely_from_test_all : (rows : List Timed) → are_timely rows ≡ true → All (λ row. row.start < row.figures.period) rows
timely_from_test_all rows test = each_timely rows ((decides_timely rows).0 test)

-- no refusal exactly where the rows are sound
pub sound_from_none : (rows : List Timed) → case_refusal rows ≡ None → Sound rows
sound_from_none rows none =
    let passed = parts (first_fault_in rows) (ltb most_tasks (length rows)) (list_any starts_late rows) (period_refusal (periods_in (figures_given rows))) none in
    let period = period_none (periods_in (figures_given rows)) passed.2 in
    record {
      some = omega (arith, period.0, length_periods rows);
      few = ltb-false most_tasks (length rows) passed.1;
      fair = fair_from_no_fault rows passed.0;
      timely = each_timely rows (timely_from_fair rows (fair_from_no_fault rows passed.0) passed.3);
      short = period.1;
    }

pub no_refusal :
    (rows : List Timed) → first_fault_in rows ≡ None → length rows ≤ most_tasks →
    period_refusal (periods_in (figures_given rows)) ≡ None → list_any starts_late rows ≡ false → case_refusal rows ≡ None
no_refusal rows fair few period timely = rw (fair, le-ltb most_tasks (length rows) few, period, timely)

pub none_from_sound : (rows : List Timed) → Sound rows → case_refusal rows ≡ None
none_from_sound rows sound =
    let timely = all_timely rows sound.fair sound.timely in
    no_refusal rows (no_fault_from_timely rows timely) sound.few
    (none_period (periods_in (figures_given rows)) (omega (arith, sound.some, length_periods rows)) sound.short)
    (none_late_from_timely rows timely)
