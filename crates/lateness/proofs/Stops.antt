-- A level while a processor runs on.
use Rattle.std.proofs.Common.{◌≡◌, ℕ, zero, suc, ◌+◌, ◌-◌, ◌<◌, ◌≤◌, ◌==◌, true, false, ◌⊎◌, Some, None, Option, sym, refl, ap, ◌∙◌, subst, inl, inr, add-zero, add-suc, arith}
use Rattle.std.specs.Option.{option_eq}
use Rattle.std.proofs.lemmas.Bool.Decides.{nat_tests}
use Rattle.std.proofs.lemmas.Bool.{cases_lt, cases_order}
use Rattle.timeline.specs.Processor.{Demands, ready, runs, done}
use Rattle.runner.specs.declared.processor.Processor.{Processor}
use Rattle.runner.specs.declared.span.Span.{Span}
use Rattle.runner.specs.Running.{Stands, RunsAt, Ran}
use Rattle.timeline.proofs.Backlog.{part_le}
use Rattle.lateness.specs.Running.{Stopped, LastRun, RanOn}

pub done_rises : (D : Demands) (level a n : ℕ) → done D level a ≤ done D level (a + n)
done_rises D level a zero = let e = ap (done D level) (add-zero a) in omega arith
done_rises D level a (suc n) =
    let e = ap (done D level) (add-suc a n) in let ih = done_rises D level a n in omega arith

pub done_later : (D : Demands) (level a b : ℕ) → a ≤ b → done D level a ≤ done D level b
done_later D level a b le =
    let e : a + (b - a) ≡ b = omega arith in
    let r = done_rises D level a (b - a) in
    let s = ap (done D level) e in
    omega arith

-- two levels do not run in one tick
pub one_runs : (D : Demands) (tick l m : ℕ) → runs D tick l ≡ true → (l ≡ m → ⊥) → runs D tick m ≡ false
one_runs D tick l m run ne = go (cases_order l m)
  where
    go : (l ≡ m) ⊎ ((l < m) ⊎ (m < l)) → runs D tick m ≡ false
    go (inl e) = absurd (ne e)
    go (inr (inl lt)) = let part = part_le (ready D tick) l m lt in grind (arith, nat_tests)
    go (inr (inr gt)) = let part = part_le (ready D tick) m l gt in grind (arith, nat_tests)

-- a level other than the one that runs does not run
pub other_rests :
    (D : Demands) (chosen : Option ℕ) (level tick : ℕ) → (chosen ≡ Some level → ⊥) → RunsAt D chosen tick → runs D tick level ≡ false
other_rests D (Some l) level tick other run = one_runs D tick l level run (λ e. other (ap Some e))
other_rests D None level tick other idle = let z = idle level in grind (arith, nat_tests)

-- what a level has done stays where it does not run
pub rests : (D : Demands) (level a n : ℕ) → ((i : ℕ) → i < n → runs D (a + i) level ≡ false) → done D level (a + n) ≡ done D level a
rests D level a zero none = ap (done D level) (add-zero a)
rests D level a (suc n) none =
    let ih = rests D level a n (λ i l. none i (omega arith)) in
    let last = none n (omega arith) in
    ap (done D level) (add-suc a n) ∙ grind (arith, nat_tests)

-- One more span, from p to q, of a run that began at `from`.
module _ (D : Demands) (level from : ℕ) (p q : Processor) (end : ℕ) (span : Span) (ran : Ran p end span q) (stands : Stands D p) where
  stopped_here : from ≤ p.tick → span.runs ≡ Some level → Stopped D level from q.tick q.tick
  stopped_here before here =
      let r = ran in
      let n = span.length - 1 in
      let last : q.tick ≡ suc (p.tick + n) = omega arith in
      let run = subst (λ chosen. RunsAt D chosen (p.tick + n)) here (ran.runs D stands (p.tick + n) (omega arith) (omega arith)) in
      let more : done D level q.tick ≡ suc (done D level (p.tick + n)) = ap (done D level) last ∙ grind (arith, nat_tests) in
      record {
        after = omega arith;
        before = omega arith;
        all = refl;
        first = λ earlier f le. elim (cases_lt earlier q.tick) [
          | inl l ↦ let rise = done_later D level earlier (p.tick + n) (omega arith) in omega arith
          | inr l ↦ l
        ];
      }

  -- what the level has done, where it did not run
  same : (span.runs ≡ Some level → ⊥) → done D level q.tick ≡ done D level p.tick
  same other =
      let r = ran in
      ap (done D level) (ran.to ∙ ap (λ n. n + span.length) ran.from)
      ∙ rests D level p.tick span.length (λ i l. other_rests D span.runs level (p.tick + i) other (ran.runs D stands (p.tick + i) (omega arith) (omega arith)))

  stopped_before : (last : Option ℕ) → (span.runs ≡ Some level → ⊥) → LastRun D level from p.tick last → LastRun D level from q.tick last
  stopped_before None other stopped = same other ∙ stopped
  stopped_before (Some tick) other stopped =
      let r = ran in
      let s = stopped in
      let same = same other in
      record {
        after = omega arith;
        before = omega arith;
        all = omega arith;
        first = λ earlier f le. stopped.first earlier f (omega arith);
      }

-- a run goes on by one span: the level ran in it, or it did not
module _ (p₀ : Processor) (level : ℕ) (last : Option ℕ) (p q : Processor) (end : ℕ) (span : Span) (so_far : RanOn p₀ level last p) (ran : Ran p end span q) where
  goes_on : (stop : Option ℕ) → ((D : Demands) → Stands D p₀ → LastRun D level p₀.tick q.tick stop) → RanOn p₀ level stop q
  goes_on stop stopped =
      let t = ran.tasks in
      let u = so_far.tasks in
      let r = ran in
      record {
        tasks = record {
          count = t.count ∙ u.count;
          work = λ l. t.work l ∙ u.work l;
          period = λ l. t.period l ∙ u.period l;
        };
        later = omega (arith, so_far.later);
        stands = λ D s. ran.stands D (so_far.stands D s);
        stopped = stopped;
      }

  pub ran_here : (stop : ℕ) → stop ≡ q.tick → span.runs ≡ Some level → RanOn p₀ level (Some stop) q
  ran_here stop at here =
      goes_on (Some stop) (λ D s.
      subst (Stopped D level p₀.tick q.tick) (sym at) (stopped_here D level p₀.tick p q end span ran (so_far.stands D s) so_far.later here))

  pub ran_other : (span.runs ≡ Some level → ⊥) → RanOn p₀ level last q
  ran_other other =
      goes_on last (λ D s. stopped_before D level p₀.tick p q end span ran (so_far.stands D s) last other (so_far.stopped D s))

-- a test for the level that ran
pub is_level : (chosen : Option ℕ) (level : ℕ) → true ≡ option_eq (λ a b. a == b) chosen (Some level) → chosen ≡ Some level
is_level (Some x) level same = let e : x ≡ level = grind (arith, nat_tests, same) in ap Some e
is_level None level same = absurd (let z : ◌≡◌ {A = ℕ} 0 1 = cc in omega arith)

pub not_level : (chosen : Option ℕ) (level : ℕ) → false ≡ option_eq (λ a b. a == b) chosen (Some level) → chosen ≡ Some level → ⊥
not_level (Some x) level other e = let same : x ≡ level = cc in grind (arith, nat_tests, other, same)
not_level None level other e = let z : ◌≡◌ {A = ℕ} 0 1 = cc in omega arith
