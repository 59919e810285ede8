-- The worked tables, computed.
use Rattle.std.proofs.Common.{◌≡◌, ℕ, true, List, [], ◌∷◌, length, refl, lit<, lit≤}
use Rattle.refusals.specs.declared.Refusal.TheVariants.{NoPlan}
use Rattle.periods.specs.Divisors.{gcd, euclid}
use Rattle.periods.specs.Multiples.{lcm}
use Rattle.periods.specs.Listed.{Listed, start_of}
use Rattle.tasks.specs.declared.figures.Figures.{Figures}
use Rattle.tasks.specs.Loads.{periods_in}
use Rattle.judges.specs.Meaning.{Meaning}
use Rattle.judges.specs.Tick.{InTime}
use Rattle.judges.specs.WorstStart.{InTimeAtWorst}
use Rattle.worked.specs.Tables.{level_in, three_tasks, urgent, meeting, between, too_tight, overfull, IsPlan, Refused, ThreeTasks, OnlyApart, TooMuchWork, Limits, WorkedTables}
use Rattle.worked.proofs.Plan.{worked_plan}
use Rattle.worked.proofs.Responses.{all_fair}
use Rattle.worked.proofs.Passed.{are_levels, are_levels_lem, all_in_time, all_in_time_lem}
use Rattle.worked.proofs.Unplanned.{none_passes_lem, unplanned, only, unplanned_at_worst}
use Rattle.worked.proofs.Refused.{overloads, plans_nothing}

-- a plan, by the numbers of `all_in_time`
is_plan :
    (tasks : List Figures) (starts levels : List ℕ) (P m n : ℕ) (responses : List ℕ) → Listed (periods_in tasks) starts →
    are_levels (length tasks) (level_in levels) ≡ true →
    all_in_time tasks (start_of starts) (level_in levels) P m n responses ≡ true → IsPlan InTime tasks starts levels
is_plan tasks starts levels P m n responses listed order passes =
    record {
      listed = listed;
      ordered =
          record {
            order = are_levels_lem (length tasks) (level_in levels) order;
            passes = all_in_time_lem tasks (start_of starts) (level_in levels) P m n responses passes;
          };
    }

three_worked : ThreeTasks
unfolding gcd euclid lcm
three_worked =
    record {
      comes_round = refl;
      work = refl;
      choices = refl;
      rows = refl;
      by_tick = is_plan three_tasks (0 ∷ 0 ∷ 10 ∷ []) (1 ∷ 2 ∷ 3 ∷ []) 24 10 7 (3 ∷ 12 ∷ 12 ∷ []) (lit< tt, (lit< tt, (lit< tt, tt))) refl refl;
      by_worst_start = plans_nothing InTimeAtWorst three_tasks refl (lit≤ tt) (unplanned_at_worst three_tasks refl);
    }

urgent_apart : OnlyApart urgent
unfolding gcd euclid lcm
urgent_apart =
    record {
      together = none_passes_lem urgent (start_of (0 ∷ 0 ∷ [])) (λ place. true) 2 (all_fair urgent refl) refl;
      apart = is_plan urgent (0 ∷ 1 ∷ []) (1 ∷ 2 ∷ []) 2 1 3 (1 ∷ 1 ∷ []) (lit< tt, (lit< tt, tt)) refl refl;
      only = only urgent (λ rank place. true) 2 1 refl;
    }

between_apart : OnlyApart between
unfolding gcd euclid lcm
between_apart =
    record {
      together = none_passes_lem between (start_of (0 ∷ 0 ∷ [])) (λ place. true) 2 (all_fair between refl) refl;
      apart = is_plan between (0 ∷ 1 ∷ []) (1 ∷ 2 ∷ []) 4 1 5 (1 ∷ 3 ∷ []) (lit< tt, (lit< tt, tt)) refl refl;
      only = only between (λ rank place. true) 2 1 refl;
    }

always_meeting : Refused InTime meeting NoPlan
unfolding gcd euclid lcm
always_meeting = plans_nothing InTime meeting refl (lit≤ tt) (unplanned meeting (λ rank place. true) 3 refl)

never_between : Refused InTime too_tight NoPlan
unfolding gcd euclid lcm
never_between = plans_nothing InTime too_tight refl (lit≤ tt) (unplanned too_tight (λ rank place. true) 3 refl)

too_much_work : {J : Type 0} (means : J → Meaning) → TooMuchWork means
unfolding gcd euclid lcm
too_much_work means = record { comes_round = refl; work = refl; refused = λ judge. overloads (means judge) overfull refl (lit< tt) }

limits : Limits
unfolding gcd euclid lcm
limits = record { longest = refl; accepted = refl; longer = refl; refused = refl }

pub worked_tables : {J : Type 0} (means : J → Meaning) → WorkedTables means
worked_tables means =
    record {
      three_worked = three_worked;
      plan = worked_plan;
      urgent_apart = urgent_apart;
      always_meeting = always_meeting;
      between_apart = between_apart;
      never_between = never_between;
      overload = too_much_work means;
      limits = limits;
    }
