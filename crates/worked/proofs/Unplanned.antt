-- Tables without a plan, found by computing: with each listed choice of starts, each of some places gets no below the
-- others of them.
use Rattle.std.proofs.Common.{◌≡◌, ℕ, zero, suc, ◌<◌, ◌≤◌, Bool, true, false, not, ◌&&◌, ◌||◌, eqb, ltb, ◌⊎◌, List, length, sym, refl, ap, ◌∙◌, subst, inl, inr, arith}
use Rattle.std.proofs.lemmas.Bool.{and_parts, or_cases, cases_eq, cases_lt, cases_Bool, both_ways, not-true, lt-ltb, ltb-true, eqb-true, eqb-false}
use Rattle.periods.specs.Listed.{number_of_choices, choice_of, start_of}
use Rattle.periods.proofs.Ranks.{ranks_list_the_choices}
use Rattle.periods.proofs.Starts.{one_listed_choice}
use Rattle.tasks.specs.declared.figures.Figures.{Figures}
use Rattle.tasks.specs.Loads.{periods_in}
use Rattle.timeline.specs.Timeline.{task_at, below_those}
use Rattle.timeline.specs.Laws.{AllFair}
use Rattle.judges.specs.Meaning.{Meaning, Lawful}
use Rattle.judges.specs.Tick.{InTime}
use Rattle.judges.specs.WorstStart.{work_below, InTimeAtWorst}
use Rattle.judges.specs.TickLaws.{tick_lawful}
use Rattle.judges.specs.WorstStartLaws.{worst_start_lawful}
use Rattle.planner.specs.Orders.{Passes, NonePasses}
use Rattle.planner.specs.Plans.{NoPlan, PassingPlan}
use Rattle.planner.proofs.Filling.{fewer_above}
use Rattle.planner.proofs.Rows.{proper_periods}
use Rattle.planner.proofs.Starts.{no_plan}
use Rattle.worked.proofs.Tested.{all_below, all_at, any_below, any_at, implies, implied}
use Rattle.worked.proofs.Responses.{are_fair, all_fair, is_late, is_late_lem}

-- of some places below n, one with the greatest level
record Lowest (left : ℕ → Bool) (levels : ℕ → ℕ) (n : ℕ) : Type 0 where
  place : ℕ
  inside : place < n
  chosen : left place ≡ true
  most : (q : ℕ) → q < n → left q ≡ true → levels q ≤ levels place

module _ (left : ℕ → Bool) (levels : ℕ → ℕ) where
  -- what holds of the chosen places below n, and of n where it is chosen
  one_more :
      (n bound : ℕ) → ((q : ℕ) → q < n → left q ≡ true → levels q ≤ bound) → (left n ≡ true → levels n ≤ bound) →
      (q : ℕ) → q < suc n → left q ≡ true → levels q ≤ bound
  one_more n bound before here q l e =
      elim (cases_eq q n) [
        | inl is ↦ let h = here (subst (λ p. left p ≡ true) is e) in omega (arith, ap levels is)
        | inr ne ↦ before q (omega arith) e
      ]

  lowest : (n : ℕ) → ((q : ℕ) → q < n → left q ≡ true → ⊥) ⊎ Lowest left levels n
  lowest zero = inl (λ q l e. omega arith)
  lowest (suc n) = go (lowest n) (cases_Bool (left n))
    where
      go :
          ((q : ℕ) → q < n → left q ≡ true → ⊥) ⊎ Lowest left levels n → (left n ≡ true) ⊎ (left n ≡ false) →
          ((q : ℕ) → q < suc n → left q ≡ true → ⊥) ⊎ Lowest left levels (suc n)
      go (inl none) (inr out) =
          inl (λ q l e. elim (cases_eq q n) [
            | inl is ↦ both_ways (left n) out (subst (λ p. left p ≡ true) is e)
            | inr ne ↦ none q (omega arith) e
          ])
      go (inl none) (inl here) =
          inr (record { place = n; inside = omega arith; chosen = here; most = one_more n (levels n) (λ q l e. absurd (none q l e)) (λ e. omega arith) })
      go (inr low) (inr out) =
          inr (record { place = low.place; inside = omega (arith, low.inside); chosen = low.chosen; most = one_more n (levels low.place) low.most (λ e. absurd (both_ways (left n) out e)) })
      go (inr low) (inl here) =
          elim (cases_lt (levels low.place) (levels n)) [
            | inl more ↦ inr (record { place = n; inside = omega arith; chosen = here; most = one_more n (levels n) (λ q l e. omega (arith, low.most q l e)) (λ e. omega arith) })
            | inr less ↦ inr (record { place = low.place; inside = omega (arith, low.inside); chosen = low.chosen; most = one_more n (levels low.place) low.most (λ e. less) })
          ]

-- In any order one of some places has the greatest level: if each gets no with the others above it, no order passes.
none_among :
    (M : Meaning) → Lawful M → (tasks : List Figures) → AllFair tasks → (starts : ℕ → ℕ) (left : ℕ → Bool) →
    ((q : ℕ) × (q < length tasks) × (left q ≡ true)) →
    ((q : ℕ) → q < length tasks → left q ≡ true → M tasks starts q left → ⊥) → NonePasses M tasks starts
none_among M lawful tasks fair starts left (some, held, chosen) refused levels are passes = go (lowest left levels (length tasks))
  where
    go : ((q : ℕ) → q < length tasks → left q ≡ true → ⊥) ⊎ Lowest left levels (length tasks) → ⊥
    go (inl none) = none some held chosen
    go (inr low) =
        refused low.place low.inside low.chosen
        (fewer_above M lawful tasks fair starts low.place (λ q. ltb (levels q) (levels low.place)) left
        (λ q below differs there.
        let apart : levels q ≡ levels low.place → ⊥ = λ same. differs (are.apart q low.place below low.inside same) in
        lt-ltb (levels q) (levels low.place) (let le = low.most q below there in omega arith))
        (passes low.place low.inside))

-- Some places are `left`, and each of them has a late request among the first n, below the others.
module _ (tasks : List Figures) (starts : ℕ → ℕ) (left : ℕ → Bool) (n : ℕ) where
  abbrev late : ℕ → ℕ → Bool
  late y k = is_late tasks starts (below_those y left) y k

  abbrev stuck : ℕ → Bool
  stuck y = implies (left y) (any_below (late y) n)

  abbrev pub none_passes : Bool
  none_passes = any_below left (length tasks) && all_below stuck (length tasks)

  pub none_passes_lem : AllFair tasks → none_passes ≡ true → NonePasses InTime tasks starts
  none_passes_lem fair test =
      let parts = and_parts (any_below left (length tasks)) (all_below stuck (length tasks)) test in
      none_among InTime tick_lawful tasks fair starts left (any_at left (length tasks) parts.0)
      (λ y inside chosen ruling.
      let (k, small, is) = any_at (late y) n (implied (left y) (any_below (late y) n) (all_at stuck (length tasks) parts.1 y inside) chosen) in
      ruling.1 k (is_late_lem tasks starts (below_those y left) y k is))

-- the same with the choice of a rank, for every rank or for every other than one
module _ (tasks : List Figures) (left : ℕ → ℕ → Bool) (n : ℕ) where
  abbrev refused : ℕ → Bool
  refused rank = none_passes tasks (start_of (choice_of (periods_in tasks) rank)) (left rank) n

  abbrev pub is_unplanned : Bool
  is_unplanned = are_fair tasks && all_below refused (number_of_choices (periods_in tasks))

  pub unplanned : is_unplanned ≡ true → NoPlan InTime tasks
  unplanned test =
      let parts = and_parts (are_fair tasks) (all_below refused (number_of_choices (periods_in tasks))) test in
      let fair = all_fair tasks parts.0 in
      no_plan InTime tick_lawful tasks fair (number_of_choices (periods_in tasks)) (one_listed_choice (periods_in tasks) (proper_periods tasks fair))
      (omega arith)
      (λ rank below.
      none_passes_lem tasks (start_of (choice_of (periods_in tasks) rank)) (left rank) n fair
      (all_at refused (number_of_choices (periods_in tasks)) parts.1 rank below))

  module _ (kept : ℕ) where
    abbrev refused_else : ℕ → Bool
    refused_else rank = eqb rank kept || refused rank

    abbrev pub is_only : Bool
    is_only = are_fair tasks && all_below refused_else (number_of_choices (periods_in tasks))

    pub only :
        is_only ≡ true → (starts : List ℕ) (levels : ℕ → ℕ) → PassingPlan InTime tasks starts levels →
        starts ≡ choice_of (periods_in tasks) kept
    only test starts levels plan = go ((ranks_list_the_choices (periods_in tasks)).reached starts plan.listed)
      where
        go :
            (rank : ℕ) × (rank < number_of_choices (periods_in tasks)) × (choice_of (periods_in tasks) rank ≡ starts) →
            starts ≡ choice_of (periods_in tasks) kept
        go (rank, below, is) =
            let parts = and_parts (are_fair tasks) (all_below refused_else (number_of_choices (periods_in tasks))) test in
            let Passing : List ℕ → Type 0 = λ choice. Passes InTime tasks (start_of choice) levels in
            elim (or_cases (eqb rank kept) (refused rank) (all_at refused_else (number_of_choices (periods_in tasks)) parts.1 rank below)) [
              | inl same ↦ sym is ∙ ap (choice_of (periods_in tasks)) (eqb-true rank kept same)
              | inr none ↦
                  absurd
                  (none_passes_lem tasks (start_of (choice_of (periods_in tasks) rank)) (left rank) n (all_fair tasks parts.0) none levels plan.ordered.order
                  (subst Passing (sym is) plan.ordered.passes))
            ]

-- By the worst-start judge no number of ticks up to its deadline brings just as much work, for each place below all others.
module _ (tasks : List Figures) where
  abbrev unsettled : ℕ → ℕ → Bool
  unsettled y ticks = not (eqb (work_below tasks y (λ q. true) ticks) ticks)

  abbrev never_settles : ℕ → Bool
  never_settles y = all_below (unsettled y) (suc (task_at tasks y).deadline)

  abbrev pub is_unsettled : Bool
  is_unsettled = are_fair tasks && (ltb 0 (length tasks) && all_below never_settles (length tasks))

  pub unplanned_at_worst : is_unsettled ≡ true → NoPlan InTimeAtWorst tasks
  unplanned_at_worst test starts =
      let parts = and_parts (are_fair tasks) (ltb 0 (length tasks) && all_below never_settles (length tasks)) test in
      let rest = and_parts (ltb 0 (length tasks)) (all_below never_settles (length tasks)) parts.1 in
      none_among InTimeAtWorst worst_start_lawful tasks (all_fair tasks parts.0) starts (λ q. true)
      (0, ltb-true 0 (length tasks) rest.0, refl)
      (λ y inside chosen ruling.
      let R = ruling.0 in
      eqb-false (work_below tasks y (λ q. true) R) R
      (not-true (eqb (work_below tasks y (λ q. true) R) R)
      (all_at (unsettled y) (suc (task_at tasks y).deadline) (all_at never_settles (length tasks) rest.1 y inside) R (omega (arith, ruling.1.in_time))))
      ruling.1.settles.settled)
