-- The members of a case, gathered place by place.
use Rattle.std.proofs.Common.{◌≡◌, ℕ, ◌+◌, ◌*◌, ◌/◌, ◌<◌, ◌≤◌, Bool, true, false, List, [], ◌∷◌, ◌++◌, length, get_or, Some, None, sym, refl, ap, ◌∙◌, subst, inl, inr, add-one, arith, length-append}
use lib.ListN.{length-map}
use Rattle.std.proofs.lemmas.List.{get_or_append_left, get_or-append-add, get_or-map}
use Rattle.std.proofs.lemmas.Bool.{cases_lt, cases_eq, cond-true, cond-false}
use Rattle.std.proofs.lemmas.Bool.Decides.{nat_tests}
use Rattle.periods.specs.Divisors.{Divides}
use Rattle.periods.specs.Multiples.{most_tasks, longest_common_period, common_period, CommonMultiple, Proper, period_refusal}
use Rattle.periods.proofs.Common.{common_period_least, multiple_pos}
use Rattle.periods.proofs.Division.{divisor_le}
use Rattle.tasks.specs.declared.figures.Figures.{Figures}
use Rattle.tasks.specs.declared.task.TimedTask.{TimedTask}
use Rattle.tasks.specs.Loads.{periods_in}
use Rattle.tasks.proofs.Loads.{work_fits}
use Rattle.tasks.proofs.Placed.{few_tasks, fair_task}
use Rattle.timeline.specs.Processor.{sum_below}
use Rattle.timeline.specs.Timeline.{task_at}
use Rattle.timeline.specs.Laws.{AllFair}
use Rattle.timeline.proofs.Loads.{share}
use Rattle.timeline.proofs.Members.{counted}
use Rattle.lateness.specs.declared.members.Members.{Members}
use Rattle.lateness.specs.Members.{tasks_in, is_member, MemberAt, CommonPeriod}

-- a multiple of each of some periods, and of one more
module _ (ts : List ℕ) (t n : ℕ) where
  pub multiple_push : CommonMultiple ts n → Divides t n → CommonMultiple (ts ++ t ∷ []) n
  multiple_push all one q l =
      elim (cases_lt q (length ts)) [
        | inl before ↦ subst (λ x. Divides x n) (sym (get_or_append_left ts (t ∷ []) 0 q before)) (all q before)
        | inr last ↦
            let e : q ≡ length ts + 0 = omega (arith, length-append ts (t ∷ [])) in
            subst (λ x. Divides x n) (sym (ap (λ i. get_or (ts ++ t ∷ []) i 0) e ∙ get_or-append-add ts (t ∷ []) 0 0)) one
      ]

  pub multiple_before : CommonMultiple (ts ++ t ∷ []) n → CommonMultiple ts n
  multiple_before all q l =
      subst (λ x. Divides x n) (get_or_append_left ts (t ∷ []) 0 q l) (all q (omega (arith, length-append ts (t ∷ []))))

  pub multiple_last : CommonMultiple (ts ++ t ∷ []) n → Divides t n
  multiple_last all =
      subst (λ x. Divides x n) (get_or-append-add ts (t ∷ []) 0 0) (all (length ts + 0) (omega (arith, length-append ts (t ∷ []))))

module _ (m : Members) where
  pub fair_in : AllFair (tasks_in m)
  fair_in q inside = fair_task m.judged.case.now q inside _

  pub few_in : length (tasks_in m) ≤ most_tasks
  few_in = few_tasks m.judged.case.now

  pub judged_member : is_member m m.judged.place ≡ true
  judged_member = grind (arith, nat_tests)

  -- what holds of each member before a place, and of this one, holds of each up to it
  pub members_more :
      (P : ℕ → Type 0) (i : ℕ) → ((q : ℕ) → q < i → q < length (tasks_in m) → is_member m q ≡ true → P q) →
      (i < length (tasks_in m) → is_member m i ≡ true → P i) → (q : ℕ) → q < i + 1 → q < length (tasks_in m) → is_member m q ≡ true → P q
  members_more P i before here q l inside member =
      elim (cases_eq q i) [
        | inl e ↦ subst P (sym e) (here (omega arith) (subst (λ p. is_member m p ≡ true) e member))
        | inr ne ↦ before q (omega arith) inside member
      ]

  -- the load of the members before a place, each with at most a common period of work
  abbrev pub Loaded : ℕ → ℕ → ℕ → Type 0
  Loaded ticks load i =
      (load ≡ sum_below (counted (is_member m) (share (tasks_in m) ticks)) i) × (load ≤ i * longest_common_period)

  module _ (ticks load i : ℕ) where
    pub load_more :
        ticks ≤ longest_common_period → Loaded ticks load i →
        (member : TimedTask) → MemberAt m i (Some member) → (figures : Figures) (work period : ℕ) → figures ≡ member.task.figures →
        work ≡ figures.work → period ≡ figures.period → Loaded ticks (load + work * (ticks / period)) (i + 1)
    load_more short so_far member at figures work period is w p =
        let fits = work_fits (task_at (tasks_in m) i) ticks (fair_in i at.0) in
        let same : figures ≡ task_at (tasks_in m) i = is ∙ sym at.2 in
        let units : work * (ticks / period) ≡ share (tasks_in m) ticks i =
        ap (λ x. x * (ticks / period)) (w ∙ ap (λ f. f.work) same) ∙ ap (λ x. (task_at (tasks_in m) i).work * (ticks / x)) (p ∙ ap (λ f. f.period) same)
        in
        let sum = ap (sum_below (counted (is_member m) (share (tasks_in m) ticks))) (add-one i) in
        let counts = cond-true (is_member m i) (share (tasks_in m) ticks i) 0 at.1 in
        (omega arith, omega arith)

    pub load_rest : (is_member m i ≡ true → ⊥) → Loaded ticks load i → Loaded ticks load (i + 1)
    load_rest none so_far =
        let sum = ap (sum_below (counted (is_member m) (share (tasks_in m) ticks))) (add-one i) in
        let counts = cond-false (is_member m i) (share (tasks_in m) ticks i) 0 (not_true (is_member m i) none) in
        (omega arith, omega arith)
      where
        not_true : (b : Bool) → (b ≡ true → ⊥) → b ≡ false
        not_true true h = absurd (h refl)
        not_true false h = refl

  -- ts are the periods of the members before a place
  pub record Gathered (ts : List ℕ) (i : ℕ) : Type 0 where
    pub few : length ts ≤ i
    pub some : m.judged.place < i → 0 < length ts
    pub common :
        (n : ℕ) → CommonMultiple ts n → (q : ℕ) → q < i → q < length (tasks_in m) → is_member m q ≡ true → Divides (task_at (tasks_in m) q).period n
    pub only : (n : ℕ) → ((q : ℕ) → q < length (tasks_in m) → Divides (task_at (tasks_in m) q).period n) → CommonMultiple ts n

  module _ (ts : List ℕ) (i : ℕ) where
    pub gathered_more :
        i < length (tasks_in m) → (t : ℕ) (ts' : List ℕ) → ts' ≡ ts ++ t ∷ [] → t ≡ (task_at (tasks_in m) i).period → Gathered ts i →
        Gathered ts' (i + 1)
    gathered_more inside t ts' push is so_far = subst (λ xs. Gathered xs (i + 1)) (sym push) all
      where
        all : Gathered (ts ++ t ∷ []) (i + 1)
        all =
            record {
              few = omega (arith, so_far.few, length-append ts (t ∷ []));
              some = λ l. omega (arith, length-append ts (t ∷ []));
              common = λ n common. members_more (λ q. Divides (task_at (tasks_in m) q).period n) i (so_far.common n (multiple_before ts t n common))
                  (λ l e. subst (λ x. Divides x n) is (multiple_last ts t n common));
              only = λ n all. multiple_push ts t n (so_far.only n all) (subst (λ x. Divides x n) (sym is) (all i inside));
            }

    pub gathered_rest : (is_member m i ≡ true → ⊥) → Gathered ts i → Gathered ts (i + 1)
    gathered_rest none so_far =
        record {
          few = omega (arith, so_far.few);
          some = λ l. elim (cases_eq m.judged.place i) [
            | inl e ↦ absurd (none (subst (λ q. is_member m q ≡ true) e judged_member))
            | inr ne ↦ so_far.some (omega arith)
          ];
          common = λ n common. members_more (λ q. Divides (task_at (tasks_in m) q).period n) i (so_far.common n common) (λ l e. absurd (none e));
          only = so_far.only;
        }

  period_at : (q : ℕ) → q < length (tasks_in m) → get_or (periods_in (tasks_in m)) q 0 ≡ (task_at (tasks_in m) q).period
  period_at q l = get_or-map (λ f. f.period) (tasks_in m) q (record { work = 0; period = 0; deadline = 0 }) 0 l

  periods_proper : Proper (periods_in (tasks_in m))
  periods_proper q l =
      let inside : q < length (tasks_in m) = omega (arith, length-map (tasks_in m) (λ f. f.period)) in
      let e = period_at q inside in
      let f = fair_in q inside in
      (omega arith, omega arith)

  -- All members are gathered. Their common period divides that of the case.
  module _ (ts : List ℕ) (i : ℕ) (proper : Proper ts) (gathered : Gathered ts i) (all : length (tasks_in m) ≤ i) where
    common_short : common_period ts ≤ longest_common_period
    common_short =
        let ours : CommonMultiple ts (common_period (periods_in (tasks_in m))) =
        gathered.only (common_period (periods_in (tasks_in m))) (λ q l.
        subst (λ x. Divides x (common_period (periods_in (tasks_in m)))) (period_at q l)
        ((common_period_least (periods_in (tasks_in m))).common q (omega (arith, length-map (tasks_in m) (λ f. f.period)))))
        in
        let le = divisor_le (common_period ts) (common_period (periods_in (tasks_in m)))
        ((common_period_least ts).least (common_period (periods_in (tasks_in m))) ours)
        (multiple_pos 1 (periods_in (tasks_in m)) (omega arith) periods_proper) in
        let short = m.judged.case.now.short in
        omega arith

    pub common_answered : period_refusal ts ≡ None
    common_answered = let short = common_short in let some = gathered.some (let held = m.held in omega arith) in grind (arith, nat_tests)

    pub common_is : (P : ℕ) → P ≡ common_period ts → CommonPeriod m P
    common_is P is =
        record {
          positive = omega (arith, multiple_pos 1 ts (omega arith) proper);
          short = omega (arith, common_short);
          common = λ q l e. subst (λ n. Divides (task_at (tasks_in m) q).period n) (sym is)
              (gathered.common (common_period ts) (common_period_least ts).common q (omega arith) l e);
        }
