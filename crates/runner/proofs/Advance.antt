-- An advance: the requests of its tick are taken, a level is chosen, and ticks pass up to the next event.
use Rattle.std.proofs.Common.{◌≡◌, ℕ, ◌+◌, ◌-◌, ◌<◌, ◌≤◌, ◌⊎◌, cond, eqb, length, get_or, Some, None, Option, refl, sym, ap, ◌∙◌, inl, inr, length-set, arith}
use Rattle.std.proofs.lemmas.Bool.Decides.{nat_tests}
use Rattle.std.proofs.lemmas.Bool.{cases_lt, cases_eq, cond-true, cond-false, eq-eqb, ne_eqb}
use Rattle.timeline.specs.Processor.{Demands, owing, ready}
use Rattle.timeline.proofs.Streams.{before_start}
use Rattle.runner.specs.declared.processor.Processor.{Processor}
use Rattle.runner.specs.declared.level.Level.{Level}
use Rattle.runner.specs.Levels.{units_spent}
use Rattle.runner.specs.Processor.{levels_of, count_of, level_on, work_on, period_on, next_on, left_on, no_task}
use Rattle.runner.specs.Running.{Stands, SameTasks, WorkEnded, RequestFalls, RunsAt, Ran}
use Rattle.runner.specs.Steps.{RequestsTaken, ToRun, Soonest, UnitsSpent, Spent}
use Rattle.runner.proofs.Cells.{get_d_set, of_either}
use Rattle.runner.proofs.Stretch.{spent, CanRun, spent_same, can_same, owing_after, runs_in}
use Rattle.runner.proofs.Taking.{demand_of, empty_demands, tasks_taken, taken_units, taken_coming, taken_later}

-- r is q without the units of n ticks, of so many at most: the chosen level ran in all of them
record Passes (q r : Processor) (chosen : Option ℕ) (ticks n : ℕ) : Type 0 where
  some : 0 < n
  within : n ≤ ticks
  can : CanRun chosen n (left_on q)
  left : (l : ℕ) → left_on r l ≡ spent chosen n (left_on q) l
  next : (l : ℕ) → next_on r l ≡ next_on q l
  tasks : SameTasks q r
  ended : (n ≡ ticks) ⊎ WorkEnded chosen r

-- what one field of the levels is, where one level spent units
module _ (q r : Processor) (w ticks n : ℕ) (known : w < count_of q) (paid : UnitsSpent q w ticks n r) where
  field_spent : (f : Level → ℕ) (l : ℕ) → f (level_on r l) ≡ cond (eqb l w) (f (units_spent n (level_on q w))) (f (level_on q l))
  field_spent f l =
      ap (λ xs. f (get_or xs l no_task)) paid.levels ∙ ap f (get_d_set (levels_of q) w _ l no_task known)
      ∙ of_either f (eqb l w) _ _

  field_stays : (f : Level → ℕ) → f (units_spent n (level_on q w)) ≡ f (level_on q w) → (l : ℕ) → f (level_on r l) ≡ f (level_on q l)
  field_stays f same l = field_spent f l ∙ go (cases_eq l w)
    where
      go : (l ≡ w) ⊎ (l ≡ w → ⊥) → cond (eqb l w) (f (units_spent n (level_on q w))) (f (level_on q l)) ≡ f (level_on q l)
      go (inl e) = cond-true (eqb l w) _ _ (eq-eqb l w e) ∙ same ∙ sym (ap (λ k. f (level_on q k)) e)
      go (inr ne) = cond-false (eqb l w) _ _ (ne_eqb l w ne)

  tasks_spent : SameTasks q r
  tasks_spent =
      record {
        count = ap length paid.levels ∙ simp length-set;
        work = field_stays (λ x. x.work) refl;
        period = field_stays (λ x. x.period) refl;
      }

  next_spent : (l : ℕ) → next_on r l ≡ next_on q l
  next_spent = field_stays (λ x. x.next) refl

  left_spent : (l : ℕ) → left_on r l ≡ spent (Some w) n (left_on q) l
  left_spent l = field_spent (λ x. x.left) l ∙ go (cases_eq l w)
    where
      go : (l ≡ w) ⊎ (l ≡ w → ⊥) → cond (eqb l w) (left_on q w - n) (left_on q l) ≡ spent (Some w) n (left_on q) l
      go (inl e) = ap (λ k. cond (eqb l w) (left_on q k - n) (left_on q l)) (sym e)
      go (inr ne) = cond-false (eqb l w) _ _ (ne_eqb l w ne) ∙ sym (cond-false (eqb l w) _ _ (ne_eqb l w ne))

passes :
    (q r : Processor) (chosen : Option ℕ) (ticks n : ℕ) → 0 < ticks → ToRun q chosen → Spent q chosen ticks n r →
    Passes q r chosen ticks n
passes q r (Some w) ticks n pos first paid =
    record {
      some = omega (arith, paid.ticks_run, first.ready);
      within = omega (arith, paid.ticks_run);
      can = (first.first, omega (arith, paid.ticks_run));
      left = left_spent q r w ticks n first.known paid;
      next = next_spent q r w ticks n first.known paid;
      tasks = tasks_spent q r w ticks n first.known paid;
      ended = go (cases_lt ticks (left_on q w));
    }
  where
    go : (ticks < left_on q w) ⊎ (left_on q w ≤ ticks) → (n ≡ ticks) ⊎ WorkEnded (Some w) r
    go (inl more) = inl (omega (arith, paid.ticks_run))
    go (inr less) =
        inr (let e = left_spent q r w ticks n first.known paid w in let l = paid.ticks_run in grind (arith, nat_tests))
passes q r None ticks n pos none (all, same) =
    record {
      some = omega arith;
      within = omega arith;
      can = none;
      left = λ l. ap (λ x. left_on x l) same;
      next = λ l. ap (λ x. next_on x l) same;
      tasks = record {
        count = ap count_of same;
        work = λ l. ap (λ x. work_on x l) same;
        period = λ l. ap (λ x. period_on x l) same;
      };
      ended = inl all;
    }

tasks_trans : (p q r : Processor) → SameTasks p q → SameTasks q r → SameTasks p r
tasks_trans p q r a b =
    record {
      count = b.count ∙ a.count;
      work = λ l. b.work l ∙ a.work l;
      period = λ l. b.period l ∙ a.period l;
    }

-- On the timeline: p takes the requests of its tick, as q, and n ticks pass.
module _
    (p q r : Processor) (chosen : Option ℕ) (end soonest n : ℕ) (taken : RequestsTaken p q)
    (soon : Soonest (levels_of q) end soonest) (pass : Passes q r chosen (soonest - q.tick) n)
    (D : Demands) (s : Stands D p) where
  ready_is : (l : ℕ) → ready D p.tick l ≡ left_on q l
  ready_is l = omega (arith, s.owes l, s.coming l p.tick (omega arith), taken_units p q taken l)

  coming_is : (l σ : ℕ) → p.tick < σ → D l σ ≡ demand_of q l σ
  coming_is l σ later = s.coming l σ (omega arith) ∙ taken_coming p q taken l σ later

  quiet : (l σ : ℕ) → p.tick < σ → σ < p.tick + n → D l σ ≡ 0
  quiet l σ later inside = coming_is l σ later ∙ go (cases_lt l (count_of q))
    where
      go : (l < count_of q) ⊎ (count_of q ≤ l) → demand_of q l σ ≡ 0
      go (inl in_use) =
          before_start _ _ _ σ (omega (arith, soon.before_next l in_use, pass.within, taken.tick))
      go (inr past) = empty_demands q l past σ

  can_run : CanRun chosen n (ready D p.tick)
  can_run = can_same chosen n (ready D p.tick) (left_on q) ready_is pass.can

  owing_then : (l : ℕ) → owing D (p.tick + n) l ≡ left_on r l
  owing_then l =
      owing_after D p.tick n chosen quiet can_run pass.some l
      ∙ spent_same chosen n (ready D p.tick) (left_on q) ready_is l ∙ sym (pass.left l)

  runs_then : (σ : ℕ) → p.tick ≤ σ → σ < p.tick + n → RunsAt D chosen σ
  runs_then = runs_in D p.tick n chosen quiet can_run

still_ended : (chosen : Option ℕ) (r z : Processor) → ((l : ℕ) → left_on z l ≡ left_on r l) → WorkEnded chosen r → WorkEnded chosen z
still_ended (Some w) r z same ended = same w ∙ ended
still_ended None r z same ended = ended

to_run_known : (q : Processor) (chosen : Option ℕ) → ToRun q chosen → (level : ℕ) → chosen ≡ Some level → level < count_of q
to_run_known q (Some w) first level e = let same : w ≡ level = cc in omega (arith, first.known)
to_run_known q None none level e = let z : ◌≡◌ {A = ℕ} 0 1 = cc in absurd (omega arith)

-- all of an advance: z is r, n ticks later
pub ran :
    (p q r z : Processor) (chosen : Option ℕ) (end soonest n : ℕ) → p.tick < end → RequestsTaken p q → ToRun q chosen →
    Soonest (levels_of q) end soonest → Spent q chosen (soonest - q.tick) n r → z.tick ≡ q.tick + n →
    levels_of z ≡ levels_of r →
    Ran p end (record { runs = chosen; from = q.tick; length = n }) z
ran p q r z chosen end soonest n before taken first soon paid tick same =
    record {
      from = taken.tick;
      some = pass.some;
      to = tick;
      within = omega (arith, pass.within, soon.before_end, later);
      tasks = tasks;
      known = λ level e. omega (arith, to_run_known q chosen first level e, (tasks_taken p q taken).count);
      event = event pass.ended soon.reached;
      stands = λ D s. record {
        owes = λ l.
            ap (λ τ. owing D τ l) then ∙ owing_then p q r chosen end soonest n taken soon pass D s l
            ∙ sym (left l);
        coming = λ l σ from.
            coming_is p q r chosen end soonest n taken soon pass D s l σ (omega (arith, pass.some)) ∙ coming l σ;
      };
      runs = λ D s σ from to. runs_then p q r chosen end soonest n taken soon pass D s σ (omega (arith, taken.tick)) (omega arith);
    }
  where
    count : count_of q ≡ count_of p
    count = (tasks_taken p q taken).count

    left : (l : ℕ) → left_on z l ≡ left_on r l
    left l = ap (λ xs. (get_or xs l no_task).left) same

    later : q.tick < soonest
    later = go soon.reached
      where
        go : (soonest ≡ end) ⊎ ((l : ℕ) × (l < count_of q) × (next_on q l ≡ soonest)) → q.tick < soonest
        go (inl e) = omega (arith, taken.tick)
        go (inr (l, in_use, e)) = omega (arith, taken.tick, count, taken_later p q taken l (omega (arith, count)))

    pass : Passes q r chosen (soonest - q.tick) n
    pass = passes q r chosen (soonest - q.tick) n (omega (arith, later)) first paid

    both : SameTasks q z
    both =
        tasks_trans q r z pass.tasks (record {
          count = ap length same;
          work = λ l. ap (λ xs. (get_or xs l no_task).work) same;
          period = λ l. ap (λ xs. (get_or xs l no_task).period) same;
        })

    tasks : SameTasks p z
    tasks = tasks_trans p q z (tasks_taken p q taken) both

    then : z.tick ≡ p.tick + n
    then = omega (arith, taken.tick)

    awaits : (l : ℕ) → next_on z l ≡ next_on q l
    awaits l = ap (λ xs. (get_or xs l no_task).next) same ∙ pass.next l

    coming : (l σ : ℕ) → demand_of q l σ ≡ demand_of z l σ
    coming l σ =
        let w = both.work l in
        let t = both.period l in
        let o = awaits l in
        simp (w, t, o)

    event :
        (n ≡ soonest - q.tick) ⊎ WorkEnded chosen r →
        (soonest ≡ end) ⊎ ((l : ℕ) × (l < count_of q) × (next_on q l ≡ soonest)) →
        (z.tick ≡ end) ⊎ (RequestFalls z ⊎ WorkEnded chosen z)
    event (inl all) (inl e) = inl (omega (arith, later))
    event (inl all) (inr (l, in_use, e)) =
        inr (inl (l, omega (arith, tasks.count, count), omega (arith, awaits l, later)))
    event (inr ended) _ = inr (inr (still_ended chosen r z left ended))
