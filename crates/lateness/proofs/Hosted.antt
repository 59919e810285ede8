-- The members on a processor of their own: those above place by place, then the judged task.
use Rattle.std.proofs.Common.{◌≡◌, ℕ, ◌+◌, ◌-◌, ◌<◌, ◌≤◌, Bool, true, false, cond, eqb, ltb, List, length, Some, sym, refl, ap, ◌∙◌, subst, inl, inr, add-one, arith}
use Rattle.std.proofs.lemmas.Bool.{cases_eq, cond-true, cond-false, eq-eqb, ne_eqb, lt-ltb}
use Rattle.std.proofs.lemmas.Bool.Decides.{nat_tests}
use Rattle.periods.specs.Multiples.{most_tasks}
use Rattle.tasks.specs.declared.figures.Figures.{Figures}
use Rattle.tasks.specs.declared.task.TimedTask.{TimedTask}
use Rattle.timeline.specs.Processor.{Demands, sum_below}
use Rattle.timeline.specs.Timeline.{task_at, demanded, below_those}
use Rattle.timeline.specs.Laws.{Alone}
use Rattle.timeline.proofs.Backlog.{sum_below_same}
use Rattle.timeline.proofs.Lateness.{done_gap}
use Rattle.timeline.proofs.Levels.{higher, above_of, own_of, done_is}
use Rattle.timeline.proofs.Members.{joint}
use Rattle.runner.specs.Processor.{count_of}
use Rattle.runner.specs.declared.processor.Processor.{Processor}
use Rattle.runner.specs.Running.{Stands, Added, with_level}
use Rattle.lateness.specs.declared.members.Members.{Members}
use Rattle.lateness.specs.Members.{tasks_in, starts_in, levels_in, is_member, MemberAt, Hosts}
use Rattle.lateness.specs.Served.{ServedAs}
use Rattle.lateness.proofs.Gathered.{few_in}

-- one level more leaves those above it as they are
module _ (D : Demands) (n : ℕ) (new : ℕ → ℕ) (tick : ℕ) where
  sum_before : (l : ℕ) → l ≤ n → sum_below (λ i. with_level D n new i tick) l ≡ sum_below (λ i. D i tick) l
  sum_before l le =
      sum_below_same (λ i. with_level D n new i tick) (λ i. D i tick) l
      (λ i h. cond-false (eqb i n) (new tick) (D i tick) (ne_eqb i n (λ e. omega arith)))

  at_level : with_level D n new n tick ≡ new tick
  at_level = cond-true (eqb n n) (new tick) (D n tick) (eq-eqb n n refl)

-- a task that is served below the same demand is served alike
pub served_as :
    (tasks : List Figures) (starts levels : ℕ → ℕ) (q : ℕ) → q < length tasks → Alone tasks levels q → (D : Demands) (level : ℕ) →
    ((tick : ℕ) → sum_below (λ l. D l tick) level ≡ above_of tasks starts levels q tick) →
    ((tick : ℕ) → D level tick ≡ demanded tasks starts q tick) → ServedAs tasks starts levels q D level
served_as tasks starts levels q inside alone D level above own =
    record {
      own = own;
      same = λ tick.
          let a = done_gap D level (above_of tasks starts levels q) (own_of tasks starts levels q) above own tick in
          let b = done_is tasks starts levels q inside alone tick in
          let s = sum_below_same (D level) (own_of tasks starts levels q) tick (λ σ l. own σ) in
          omega arith;
    }

-- the judged task has its level alone
pub judged_alone : (tasks : List Figures) (judged : ℕ) (above : ℕ → Bool) → Alone tasks (below_those judged above) judged
judged_alone tasks judged above p l e =
    elim (cases_eq p judged) [ inl same ↦ same | inr ne ↦ absurd (let z : below_those judged above p ≡ below_those judged above judged → ⊥ = λ h. grind (arith, nat_tests) in z e) ]

module _ (m : Members) where
  -- the processor has those above at the places before i
  pub record Raised (p : Processor) (i : ℕ) : Type 0 where
    pub start : p.tick ≡ 0
    pub few : count_of p + cond (ltb m.judged.place i) 1 0 ≤ i
    pub D : Demands
    pub stands : Stands D p
    pub above : (tick : ℕ) → sum_below (λ l. D l tick) (count_of p) ≡ joint (higher (levels_in m) m.judged.place) (demanded (tasks_in m) (starts_in m)) i tick

  -- another place than the judged one is a member exactly if it is above
  member_above : (i : ℕ) → (i ≡ m.judged.place → ⊥) → is_member m i ≡ higher (levels_in m) m.judged.place i
  member_above i other = grind (arith, nat_tests)

  module _ (p : Processor) (i : ℕ) where
    -- the demand of those above, with that of the place
    joint_more :
        (tick : ℕ) →
        joint (higher (levels_in m) m.judged.place) (demanded (tasks_in m) (starts_in m)) (i + 1) tick
        ≡ joint (higher (levels_in m) m.judged.place) (demanded (tasks_in m) (starts_in m)) i tick
        + cond (higher (levels_in m) m.judged.place i) (demanded (tasks_in m) (starts_in m) i tick) 0
    joint_more tick = ap (λ n. joint (higher (levels_in m) m.judged.place) (demanded (tasks_in m) (starts_in m)) n tick) (add-one i)

    pub raised_more :
        (q : Processor) → is_member m i ≡ true → (i ≡ m.judged.place → ⊥) → Added p (task_at (tasks_in m) i) (starts_in m i) q →
        Raised p i → Raised q (i + 1)
    raised_more q member other a so_far =
        let n = a.count in
        let high = sym (member_above i other) ∙ member in
        record {
          start = a.tick ∙ so_far.start;
          few = let f = so_far.few in grind (arith, nat_tests);
          D = with_level so_far.D (count_of p) (demanded (tasks_in m) (starts_in m) i);
          stands = a.stands so_far.D so_far.stands;
          above = λ tick.
              let more = ap (sum_below (λ l. with_level so_far.D (count_of p) (demanded (tasks_in m) (starts_in m) i) l tick)) (n ∙ add-one (count_of p)) in
              let before = sum_before so_far.D (count_of p) (demanded (tasks_in m) (starts_in m) i) tick (count_of p) (omega arith) in
              let here = at_level so_far.D (count_of p) (demanded (tasks_in m) (starts_in m) i) tick in
              let old = so_far.above tick in
              let new = joint_more tick in
              let counts = cond-true (higher (levels_in m) m.judged.place i) (demanded (tasks_in m) (starts_in m) i tick) 0 high in
              omega arith;
        }

    -- a place that is not above leaves the processor as it is
    raised_still : higher (levels_in m) m.judged.place i ≡ false → Raised p i → Raised p (i + 1)
    raised_still low so_far =
        record {
          start = so_far.start;
          few = let f = so_far.few in grind (arith, nat_tests);
          D = so_far.D;
          stands = so_far.stands;
          above = λ tick.
              let old = so_far.above tick in
              let new = joint_more tick in
              let counts = cond-false (higher (levels_in m) m.judged.place i) (demanded (tasks_in m) (starts_in m) i tick) 0 low in
              omega arith;
        }

    pub raised_rest : i ≡ m.judged.place → Raised p i → Raised p (i + 1)
    raised_rest same = raised_still (grind (arith, nat_tests))

    pub raised_skip : (is_member m i ≡ true → ⊥) → Raised p i → Raised p (i + 1)
    raised_skip none = raised_still (grind (arith, nat_tests))

  -- what was put is the task at its place
  pub added_as :
      (i : ℕ) (timed : TimedTask) (p q : Processor) → MemberAt m i (Some timed) → Added p timed.task.figures timed.start q →
      Added p (task_at (tasks_in m) i) (starts_in m i) q
  added_as i timed p q at added =
      subst (λ start. Added p (task_at (tasks_in m) i) start q) (sym at.3)
      (subst (λ figures. Added p figures timed.start q) (sym at.2) added)

  -- there is room for the judged task
  pub raised_few : (p : Processor) → Raised p (length (tasks_in m)) → count_of p < most_tasks
  raised_few p raised =
      let held = m.held in let f = raised.few in let few = few_in m in let past = lt-ltb m.judged.place (length (tasks_in m)) (omega arith) in let one : ◌≡◌ {A = ℕ} (cond (ltb m.judged.place (length (tasks_in m))) 1 0) 1 = cond-true (ltb m.judged.place (length (tasks_in m))) 1 0 past in omega arith

  -- all of those above, and the judged task below them
  pub hosted :
      (p q : Processor) → Raised p (length (tasks_in m)) → Added p (task_at (tasks_in m) m.judged.place) (starts_in m m.judged.place) q →
      Hosts m q
  hosted p q raised a =
      let held = m.held in
      let n = a.count in
      let own = demanded (tasks_in m) (starts_in m) m.judged.place in
      let level : count_of q - 1 ≡ count_of p = omega arith in
      record {
        start = a.tick ∙ raised.start;
        some = omega arith;
        D = with_level raised.D (count_of p) (demanded (tasks_in m) (starts_in m) m.judged.place);
        stands = a.stands raised.D raised.stands;
        served = subst (ServedAs (tasks_in m) (starts_in m) (levels_in m) m.judged.place (with_level raised.D (count_of p) (demanded (tasks_in m) (starts_in m) m.judged.place))) (sym level)
            (served_as (tasks_in m) (starts_in m) (levels_in m) m.judged.place held (judged_alone (tasks_in m) m.judged.place _) _ (count_of p)
            (λ tick.
            sum_before raised.D (count_of p) own tick (count_of p) (omega arith) ∙ raised.above tick)
            (λ tick. at_level raised.D (count_of p) own tick));
      }
