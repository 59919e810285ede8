-- The tasks of a case, by place.
use Rattle.std.proofs.Common.{◌≡◌, ℕ, ◌<◌, ◌≤◌, List, length, get_or, sym, ap, ◌∙◌, subst, arith}
use lib.ListN.{length-map}
use Rattle.std.proofs.ByRecursion.{All-get_or}
use Rattle.std.proofs.lemmas.List.{get_or-map}
use Rattle.periods.specs.Multiples.{most_tasks, longest_period}
use Rattle.tasks.specs.declared.case.Case.{Case}
use Rattle.tasks.specs.declared.figures.Figures.{Figures}
use Rattle.tasks.specs.declared.rows.Timed.{Timed}
use Rattle.tasks.specs.Cases.{timed_of, tasks_of, starts_of}
use Rattle.tasks.specs.Figures.{Fair}
use Rattle.tasks.specs.Timed.{Sound}
use Rattle.tasks.proofs.Lists.{few_items}
use Rattle.tasks.proofs.Timely.{fair_from_test_all, timely_from_test_all}

module _ (case : Case) where
  pub length_tasks : length (tasks_of case) ≡ length (timed_of case)
  length_tasks = length-map (timed_of case) (λ row. row.figures)

  pub few_tasks : length (tasks_of case) ≤ most_tasks
  few_tasks = omega (arith, length_tasks, few_items case.rows)

  pub length-rows : (rows : List Timed) → rows ≡ timed_of case → length rows ≡ length (tasks_of case)
  length-rows rows all = ap length all ∙ sym length_tasks

  pub case_sound : Sound (timed_of case)
  case_sound = record {
    some = case.some;
    few = omega (arith, few_tasks, length_tasks);
    fair = fair_from_test_all (timed_of case) case.timely;
    timely = timely_from_test_all (timed_of case) case.timely;
    short = case.short;
  }

  module _ (q : ℕ) (row : Timed) (inside : q < length (timed_of case)) where
    pub figures_at_lem : (none : Figures) → get_or (tasks_of case) q none ≡ (get_or (timed_of case) q row).figures
    figures_at_lem none = get_or-map (λ r. r.figures) (timed_of case) q row none inside

    pub start_at : starts_of case q ≡ (get_or (timed_of case) q row).start
    start_at = get_or-map (λ r. r.start) (timed_of case) q row 0 inside

    pub fair_at : Fair (get_or (timed_of case) q row).figures
    fair_at = All-get_or (λ r. Fair r.figures) (timed_of case) q row inside (fair_from_test_all (timed_of case) case.timely)

    pub timely_at : (get_or (timed_of case) q row).start < (get_or (timed_of case) q row).figures.period
    timely_at =
        All-get_or (λ r. r.start < r.figures.period) (timed_of case) q row inside (timely_from_test_all (timed_of case) case.timely)

  module _ (q : ℕ) (inside : q < length (tasks_of case)) (none : Figures) where
    abbrev blank : Timed
    blank = record { figures = none; start = 0 }

    held : q < length (timed_of case)
    held = omega (arith, length_tasks)

    pub fair_task : Fair (get_or (tasks_of case) q none)
    fair_task = subst Fair (sym (figures_at_lem q blank held none)) (fair_at q blank held)

    starts_in_period : starts_of case q < (get_or (tasks_of case) q none).period
    starts_in_period =
        omega (arith, start_at q blank held, ap (λ f. f.period) (figures_at_lem q blank held none), timely_at q blank held)

  pub start_short : (q : ℕ) → q < length (tasks_of case) → starts_of case q ≤ longest_period
  start_short q inside =
      let none : Figures = record { work = 0; period = 0; deadline = 0 } in
      let s = starts_in_period q inside none in
      let f = fair_task q inside none in
      omega arith
