-- The tasks of a case in the order of their levels.
use Rattle.std.proofs.Common.{◌≡◌, ℕ, zero, suc, ◌+◌, ◌-◌, ◌<◌, ◌≤◌, true, cond, ◌&&◌, eqb, ltb, ◌⊎◌, List, length, Some, None, Option, MatchOption, sym, refl, ap, ◌∙◌, subst, inl, inr, add-one, arith}
use Rattle.std.proofs.lemmas.Bool.{cases_lt, cases_eq, cond-true, cond-false, eq-eqb, ne_eqb}
use Rattle.std.proofs.lemmas.Bool.Decides.{nat_tests}
use Rattle.tasks.specs.declared.case.Case.{Case}
use Rattle.tasks.specs.declared.task.TimedTask.{TimedTask}
use Rattle.tasks.specs.Cases.{tasks_of, starts_of, TaskAt}
use Rattle.timeline.specs.Processor.{Demands, sum_below, owing, ready, runs, Idle}
use Rattle.timeline.specs.Timeline.{task_at, demanded}
use Rattle.timeline.proofs.Backlog.{sum_below_same, sum_below_none}
use Rattle.timeline.proofs.Lateness.{done-owing}
use Rattle.timeline.proofs.Levels.{own_is}
use Rattle.timeline.proofs.Loads.{sum_below_front}
use Rattle.runner.specs.Processor.{count_of}
use Rattle.runner.specs.declared.processor.Processor.{Processor}
use Rattle.runner.specs.Running.{Stands, Added, ToldAt, with_level}
use Rattle.lateness.specs.Ordered.{level_of, Within, Only, OnlyPlace, IsOrder, demands_in, OrderedOn, RunsIn}

module _ (case : Case) (levels : List ℕ) where
  -- the levels from 1 to below the next one have one place each, and stand on the levels of a processor
  pub record OrderedTo (next : ℕ) (p : Processor) : Type 0 where
    pub start : p.tick ≡ 0
    pub count : count_of p + 1 ≡ next
    pub each : (level : ℕ) → 1 ≤ level → level < next → (place : ℕ) × Only levels level place
    pub D : Demands
    pub stands : Stands D p
    pub same : (l : ℕ) → l < count_of p → (tick : ℕ) → D l tick ≡ demands_in case levels (suc l) tick
    pub rest : (l : ℕ) → count_of p ≤ l → (tick : ℕ) → D l tick ≡ 0

  -- a level with one place demands what the task there does
  one_place :
      (level place : ℕ) → Only levels level place → length levels ≡ length (tasks_of case) → (tick : ℕ) →
      demands_in case levels level tick ≡ demanded (tasks_of case) (starts_of case) place tick
  one_place level place only all tick =
      ap (λ l. demands_in case levels l tick) (sym only.has)
      ∙ own_is (tasks_of case) (starts_of case) (level_of levels) place (omega (arith, only.held))
      (λ p inside e. only.alone p (omega arith) (e ∙ only.has)) tick

  -- the place of the next level takes its task
  pub ordered_more :
      (next : ℕ) (p q : Processor) (place : ℕ) (timed : TimedTask) → OrderedTo next p → length levels ≡ length (tasks_of case) →
      Only levels next place → TaskAt case place (Some timed) → Added p timed.task.figures timed.start q → OrderedTo (next + 1) q
  ordered_more next p q place timed so_far all only task put =
      let added : Added p (task_at (tasks_of case) place) (starts_of case place) q =
      subst (λ start. Added p (task_at (tasks_of case) place) start q) (sym task.2) (subst (λ figures. Added p figures timed.start q) (sym (task.1 _)) put) in
      record {
        start = added.tick ∙ so_far.start;
        count = omega (arith, added.count, so_far.count);
        each = λ level low high. elim (cases_eq level next) [
          | inl e ↦ (place, subst (λ l. Only levels l place) (sym e) only)
          | inr ne ↦ so_far.each level low (omega arith)
        ];
        D = with_level so_far.D (count_of p) (demanded (tasks_of case) (starts_of case) place);
        stands = added.stands so_far.D so_far.stands;
        same = λ l before tick. elim (cases_eq l (count_of p)) [
          | inl e ↦
              cond-true (eqb l (count_of p)) _ _ (eq-eqb l (count_of p) e) ∙ sym (one_place next place only all tick)
              ∙ ap (λ n. demands_in case levels n tick) (let x : next ≡ suc l = omega (arith, so_far.count) in x)
          | inr ne ↦ cond-false (eqb l (count_of p)) _ _ (ne_eqb l (count_of p) ne) ∙ so_far.same l (omega (arith, added.count)) tick
        ];
        rest = λ l past tick.
            cond-false (eqb l (count_of p)) _ _ (ne_eqb l (count_of p) (λ e. omega (arith, added.count))) ∙ so_far.rest l (omega (arith, added.count)) tick;
      }

  -- All levels are there.
  module _ (within : Within levels) where
    -- levels that no place has demand nothing
    no_place : (level : ℕ) → (level ≡ 0) ⊎ (length levels < level) → length levels ≡ length (tasks_of case) → (tick : ℕ) → demands_in case levels level tick ≡ 0
    no_place level out all tick =
        sum_below_same _ (λ q. 0) (length (tasks_of case))
        (λ q inside.
        let w = within q (omega arith) in
        cond-false (eqb (level_of levels q) level) _ _
        (ne_eqb (level_of levels q) level (λ e. elim out [ inl z ↦ omega arith | inr past ↦ omega arith ])))
        ∙ sum_below_none (length (tasks_of case))

    pub ordered_all :
        (level : ℕ) (p : Processor) → OrderedTo (level + 1) p → level ≡ length levels → length levels ≡ length (tasks_of case) →
        IsOrder case levels × (p.tick ≡ 0) × Stands (λ level. demands_in case levels (suc level)) p
    ordered_all level p so_far full all = (
      record { all = all; within = within; each = λ l low high. so_far.each l low (omega arith) },
      so_far.start,
      record {
        owes = λ l.
            ap (λ tick. owing (λ level. demands_in case levels (suc level)) tick l) so_far.start
            ∙ sym (ap (λ tick. owing so_far.D tick l) so_far.start) ∙ so_far.stands.owes l;
        coming = λ l tick later. sym (same l tick) ∙ so_far.stands.coming l tick later;
      },
    )
      where
        same : (l tick : ℕ) → so_far.D l tick ≡ demands_in case levels (suc l) tick
        same l tick =
            elim (cases_lt l (count_of p)) [
              | inl before ↦ so_far.same l before tick
              | inr past ↦ so_far.rest l past tick ∙ sym (no_place (suc l) (inr (omega (arith, so_far.count))) all tick)
            ]

-- The levels from 1 are those of a processor from 0: level 0 has no task.
module _ (D : Demands) (none : (tick : ℕ) → D 0 tick ≡ 0) where
  abbrev E : Demands
  E level = D (suc level)

  owing_first : (tick : ℕ) → owing D tick 0 ≡ 0
  owing_first zero = refl
  owing_first (suc tick) = let ih = owing_first tick in let z = none tick in omega arith

  sum_shift : (tick level : ℕ) → ((l : ℕ) → owing D tick (suc l) ≡ owing E tick l) → sum_below (ready D tick) (suc level) ≡ sum_below (ready E tick) level
  sum_shift tick level same =
      let front = sum_below_front (ready D tick) level in
      let rest = sum_below_same (λ l. ready D tick (suc l)) (ready E tick) level (λ l h. ap (λ n. n + D (suc l) tick) (same l)) in
      let ih = owing_first tick in
      let z = none tick in
      omega arith

  owing_shift : (tick level : ℕ) → owing D tick (suc level) ≡ owing E tick level
  owing_shift zero level = refl
  owing_shift (suc tick) level =
      let above = sum_shift tick level (owing_shift tick) in
      let here = ap (λ n. n + D (suc level) tick) (owing_shift tick level) in
      ap (λ n. cond (eqb n 0) (ready D tick (suc level) - 1) (ready D tick (suc level))) above
      ∙ ap (λ n. cond (eqb (sum_below (ready E tick) level) 0) (n - 1) n) here

  pub runs_shift : (tick level : ℕ) → runs D tick (suc level) ≡ runs E tick level
  runs_shift tick level =
      let above = sum_shift tick level (owing_shift tick) in
      let here = ap (λ n. n + D (suc level) tick) (owing_shift tick level) in
      ap (λ n. eqb n 0 && ltb 0 (ready D tick (suc level))) above ∙ ap (λ n. eqb (sum_below (ready E tick) level) 0 && ltb 0 n) here

  pub idle_shift : (tick : ℕ) → Idle E tick → Idle D tick
  idle_shift tick idle zero = omega (arith, owing_first tick, none tick)
  idle_shift tick idle (suc level) = ap (λ n. n + D (suc level) tick) (owing_shift tick level) ∙ idle level

-- a level that demands nothing does not run
pub rests_always : (D : Demands) (level : ℕ) → ((tick : ℕ) → D level tick ≡ 0) → (tick : ℕ) → runs D tick level ≡ true → ⊥
rests_always D level none tick run =
    let all = sum_below_same (D level) (λ σ. 0) tick (λ σ l. none σ) ∙ sum_below_none tick in
    let owed = done-owing D level tick in
    let here = none tick in
    let zero' : ready D tick level ≡ 0 = omega arith in
    let z : ◌≡◌ {A = ℕ} 0 1 = grind (arith, nat_tests) in
    omega arith

-- What a processor tells whose levels are those of the tasks, from 1.
module _ (case : Case) (levels : List ℕ) (tick : ℕ) (p : Processor) (on : OrderedOn case levels (Some p)) where
  none_first : (σ : ℕ) → demands_in case levels 0 σ ≡ 0
  none_first σ = no_place case levels on.0.within 0 (inl refl) on.0.all σ

  pub told_idle : ToldAt p tick (Some None) → RunsIn case levels tick (Some None)
  told_idle told = (on.0, told.1, idle_shift (demands_in case levels) none_first tick (told.2 _ on.2))

  pub known_level : (level : ℕ) → ToldAt p tick (Some (Some level)) → level < length levels
  known_level level told =
      elim (cases_lt level (length levels)) [
        | inl inside ↦ inside
        | inr past ↦ absurd (rests_always (λ l. demands_in case levels (suc l)) level (λ σ. no_place case levels on.0.within (suc level) (inr (omega arith)) on.0.all σ) tick (told.2 _ on.2))
      ]

  pub told_place :
      (level : ℕ) → ToldAt p tick (Some (Some level)) → (place : Option ℕ) → OnlyPlace levels (level + 1) place → RunsIn case levels tick (Some place)
  told_place level told (Some place) only = (
    on.0,
    told.1,
    omega (arith, on.0.all, only.held),
    ap (runs (demands_in case levels) tick) (only.has ∙ add-one level) ∙ runs_shift (demands_in case levels) none_first tick level ∙ told.2 _ on.2,
  )
  told_place level told None none =
      let each = on.0.each (level + 1) (omega arith) (omega (arith, known_level level told)) in absurd (none each.0 each.1)

  -- who runs, from the level that the processor tells
  pub told_runs :
      (P : ℕ → Type 0) (runs place : Option ℕ) → ToldAt p tick (Some runs) → MatchOption runs (place ≡ None) P →
      ((level : ℕ) → P level → OnlyPlace levels (level + 1) place) → RunsIn case levels tick (Some place)
  told_runs P (Some level) place told result only = told_place level told place (only level result)
  told_runs P None place told result only = subst (λ r. RunsIn case levels tick (Some r)) (sym result) (told_idle told)
