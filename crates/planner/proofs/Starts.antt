-- The search over the listed choices of starts, against any lawful judge.
use Rattle.std.proofs.Common.{◌≡◌, ℕ, ◌<◌, ◌≤◌, ltb, List, map, length, get_or, Some, sym, refl, ap, ◌∙◌, subst, arith}
use lib.ListN.{length-map}
use Rattle.std.proofs.lemmas.List.{ext_get_or, get_or-map}
use Rattle.std.proofs.lemmas.List.FromFn.{length-map-range_with_len, get_or-map-range_with_len}
use Rattle.std.proofs.lemmas.Bool.Decides.{nat_tests}
use Rattle.periods.specs.Listed.{Related, Listed, OneListedChoice, number_of_choices, radices, choice_of, start_of}
use Rattle.periods.specs.Lists.{in_places, starts_of as starts_of_rank}
use Rattle.periods.proofs.Ranks.{in_places_at, length_digits, length-radices, ranks_list_the_choices}
use Rattle.tasks.specs.declared.case.Case.{Case}
use Rattle.tasks.specs.declared.figures.Figures.{Figures}
use Rattle.tasks.specs.declared.rows.Row.{Row}
use Rattle.tasks.specs.Cases.{timed_of}
use Rattle.tasks.specs.Loads.{periods_in}
use Rattle.tasks.specs.Timed.{figures_given}
use Rattle.timeline.specs.Laws.{AllFair}
use Rattle.judges.specs.Meaning.{Meaning, Lawful, tasks_of, starts_of}
use Rattle.planner.specs.declared.order.Order.{Order}
use Rattle.planner.specs.declared.plan.Assignment.{Assignment}
use Rattle.planner.specs.declared.plan.Plan.{Plan}
use Rattle.planner.specs.Orders.{Levels, Passes, NonePasses, Ordered, places_of, level_of}
use Rattle.planner.specs.Plans.{Planned, NoPlan, given_in, given_by, count_of, starts_in, level_at, start_at, timed}
use Rattle.planner.proofs.Filling.{fewer_above, order_levels}
use Rattle.planner.proofs.Rows.{figures_at, periods_at, timed_figures, timed_start}

-- what the answer for a rank tells
module _ (ts listed : List ℕ) (rank : ℕ) (same : listed ≡ ts) where
  pub rank_listed :
      (starts : List ℕ) → Some starts ≡ starts_of_rank listed rank →
      (rank < number_of_choices ts) × (starts ≡ in_places (choice_of ts rank))
  rank_listed starts answered =
      let is = answered ∙ ap (λ all. starts_of_rank all rank) same in (grind (arith, nat_tests), grind (arith, nat_tests))

related_equal : (ts : List ℕ) (s s' : ℕ → ℕ) → ((q : ℕ) → q < length ts → s q ≡ s' q) → Related ts s s'
related_equal ts s s' equal = record {
  ahead = 0;
  behind = 0;
  more = λ q. 0;
  fewer = λ q. 0;
  same = λ q below. omega (arith, equal q below);
}

pub levels_like : (n : ℕ) (f f' : ℕ → ℕ) → ((q : ℕ) → q < n → f q ≡ f' q) → Levels n f → Levels n f'
levels_like n f f' equal are = record {
  least = λ place below. omega (arith, are.least place below, equal place below);
  most = λ place below. omega (arith, are.most place below, equal place below);
  apart = λ place other below below' same. are.apart place other below below' (equal place below ∙ same ∙ sym (equal other below'));
}

module _ (M : Meaning) (lawful : Lawful M) (tasks : List Figures) (fair : AllFair tasks) where
  -- only the starts and levels of the tasks matter
  pub passes_like :
      (s s' f f' : ℕ → ℕ) → ((q : ℕ) → q < length tasks → s q ≡ s' q) → ((q : ℕ) → q < length tasks → f q ≡ f' q) →
      Passes M tasks s f → Passes M tasks s' f'
  passes_like s s' f f' starts levels passes place held =
      lawful.related tasks s s' place (λ q. ltb (f' q) (f' place)) fair
      (related_equal (periods_in tasks) s s' (λ q below. starts q (omega (arith, length-map tasks (λ task. task.period)))))
      (fewer_above M lawful tasks fair s place (λ q. ltb (f q) (f place)) (λ q. ltb (f' q) (f' place))
      (λ q below differs smaller.
      let here = levels place held in
      let there = levels q below in grind (arith, nat_tests))
      (passes place held))

  -- all listed choices are passed over: every choice of starts is related to one of them
  pub no_plan :
      (rank : ℕ) → OneListedChoice (periods_in tasks) → number_of_choices (periods_in tasks) ≤ rank →
      ((earlier : ℕ) → earlier < rank → NonePasses M tasks (start_of (choice_of (periods_in tasks) earlier))) → NoPlan M tasks
  no_plan rank one all refused starts levels are passes =
      let ts = periods_in tasks in
      let found = one starts in
      let ranked = (ranks_list_the_choices ts).reached found.0 found.1 in
      let To : List ℕ → Type 0 = λ choice. Related ts starts (start_of choice) in
      refused ranked.0 (omega (arith, ranked.1)) levels are
      (λ place held.
      lawful.related tasks starts (start_of (choice_of ts ranked.0)) place _ fair (subst To (sym ranked.2) found.2)
      (passes place held))

-- what a plan of these starts with the levels of an order gives
module _ (starts : List ℕ) (order : Order) (plan : Plan) (given : given_in plan ≡ given_by starts order) where
  count_given : count_of plan ≡ length (places_of order)
  count_given = ap length given ∙ length-map-range_with_len _ 0 (length (places_of order))

  module _ (q : ℕ) (inside : q < length (places_of order)) where
    nothing : Assignment
    nothing = record { start = 0; level = 0 }

    given_at : get_or (given_in plan) q nothing ≡ record { start = start_of starts q; level = level_of order q }
    given_at =
        ap (λ all. get_or all q nothing) given
        ∙ get_or-map-range_with_len _ 0 (length (places_of order)) q q nothing inside (omega arith)

    start_given : start_at plan q ≡ start_of starts q
    start_given =
        get_or-map (λ task. task.start) (given_in plan) q nothing 0 (omega (arith, count_given)) ∙ ap (λ (task : Assignment). task.start) given_at

    level_given : level_at plan q ≡ level_of order q
    level_given =
        get_or-map (λ task. task.level) (given_in plan) q nothing 0 (omega (arith, count_given)) ∙ ap (λ (task : Assignment). task.level) given_at

-- the case of the rows with the choice of a rank
module _
    (M : Meaning) (lawful : Lawful M) (rows : List Row) (fair : AllFair (figures_at rows)) (rank : ℕ) (starts : List ℕ)
    (chosen : starts ≡ in_places (choice_of (periods_at rows) rank)) (case : Case) (formed : timed_of case ≡ timed rows (start_of starts)) where
  tasks_of_lem : tasks_of case ≡ figures_at rows
  tasks_of_lem = ap figures_given formed ∙ timed_figures rows (start_of starts)

  starts_of_lem : (q : ℕ) → q < length (figures_at rows) → starts_of case q ≡ start_of starts q
  starts_of_lem q held =
      ap (λ all. get_or (map (λ row. row.start) all) q 0) formed
      ∙ timed_start rows (start_of starts) q (omega (arith, length-map rows (λ row. row.figures)))

  pub choice_refused :
      NonePasses M (tasks_of case) (starts_of case) → NonePasses M (figures_at rows) (start_of (choice_of (periods_at rows) rank))
  choice_refused none levels are passes =
      let choice = choice_of (periods_at rows) rank in
      let For : List Figures → Type 0 = λ tasks. NonePasses M tasks (starts_of case) in
      subst For tasks_of_lem none levels are
      (passes_like M lawful (figures_at rows) fair (start_of choice) (starts_of case) levels levels
      (λ q held. sym (starts_of_lem q held ∙ ap (λ all. start_of all q) chosen ∙ in_places_at choice q)) (λ q held. refl) passes)

  pub choice_planned :
      rank < number_of_choices (periods_at rows) → (order : Order) (plan : Plan) → given_in plan ≡ given_by starts order →
      Ordered M case (Some order) → Planned M (figures_at rows) plan
  choice_planned below order plan given ordered =
      let tasks = figures_at rows in
      let ts = periods_at rows in
      let choice = choice_of ts rank in
      let whole : length (places_of order) ≡ length tasks = ordered.0 ∙ ap length tasks_of_lem in
      let long : length choice ≡ length tasks =
      length_digits (radices 1 ts) rank ∙ length-radices 1 ts ∙ length-map tasks (λ task. task.period) in
      let count = count_given starts order plan given in
      let start : (q : ℕ) → q < length tasks → start_at plan q ≡ start_of starts q =
      λ q held. start_given starts order plan given q (omega arith) in
      let level : (q : ℕ) → q < length tasks → level_of order q ≡ level_at plan q =
      λ q held. sym (level_given starts order plan given q (omega arith)) in
      let chooses : starts_in plan ≡ choice =
      ext_get_or 0 _ _ (length-map (given_in plan) (λ task. task.start) ∙ count ∙ whole ∙ sym long)
      (λ q inside.
      let held : q < length tasks = omega (arith, length-map (given_in plan) (λ task. task.start)) in
      start q held ∙ ap (λ all. start_of all q) chosen ∙ in_places_at choice q) in
      let For : List Figures → Type 0 = λ all. Passes M all (starts_of case) (level_of order) in
      let Is : List ℕ → Type 0 = Listed ts in
      record {
        count = count ∙ whole;
        listed = subst Is (sym chooses) ((ranks_list_the_choices ts).listed rank below);
        levels = levels_like (length tasks) (level_of order) (level_at plan) level (order_levels (length tasks) order whole);
        passes =
            passes_like M lawful tasks fair (starts_of case) (start_at plan) (level_of order) (level_at plan)
            (λ q held. starts_of_lem q held ∙ sym (start q held)) level (subst For tasks_of_lem ordered.2);
      }
