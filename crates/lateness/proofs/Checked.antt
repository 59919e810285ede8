-- Requests of a task that are checked one after the other.
use Rattle.std.proofs.Common.{◌≡◌, ℕ, zero, suc, ◌+◌, ◌-◌, ◌*◌, ◌<◌, ◌≤◌, max, ◌⊎◌, List, length, Some, None, Option, sym, ap, ◌∙◌, subst, inl, inr, mul-le-mul_right, suc-mul, zero-mul, arith}
use Rattle.std.proofs.lemmas.Bool.{cases_lt}
use Rattle.tasks.specs.declared.figures.Figures.{Figures}
use Rattle.timeline.specs.Processor.{Demands, sum_below, owing, done}
use Rattle.timeline.specs.Requests.{requested}
use Rattle.timeline.specs.Timeline.{task_at, request_of, deadline_of, done_by, Late, NeverLate, Finished, Finish, WorstResponse}
use Rattle.timeline.specs.Laws.{AllFair, Spans, through, load_through, Alone}
use Rattle.timeline.proofs.Backlog.{sum_below_same}
use Rattle.timeline.proofs.Streams.{up_to_request}
use Rattle.timeline.proofs.Lateness.{come_by_due, done-owing}
use Rattle.timeline.proofs.Laws.{undone_early}
use Rattle.timeline.proofs.Loads.{own_through}
use Rattle.timeline.proofs.Related.{has_finish}
use Rattle.runner.specs.Processor.{left_on}
use Rattle.runner.specs.declared.processor.Processor.{Processor}
use Rattle.runner.specs.Running.{Stands}
use Rattle.lateness.specs.Running.{Stopped, LastRun, RanOn}
use Rattle.lateness.specs.Served.{ServedAs}
use Rattle.lateness.proofs.Stops.{done_later}

module _ (tasks : List Figures) (starts levels : ℕ → ℕ) (q : ℕ) where
  -- some request, after a tick that is not its own, is finished exactly `worst` after it falls
  abbrev pub Takes : ℕ → Type 0
  Takes worst = (0 < worst) × ((j : ℕ) × (1 ≤ j) × Finish tasks starts levels q j (request_of tasks starts q j + worst))

  -- the first k requests are checked, up to a tick: each is finished within `worst`, and one takes as long
  pub record Checked (k tick worst : ℕ) : Type 0 where
    pub done_so_far : done_by tasks starts levels q tick ≤ k * (task_at tasks q).work
    pub passed : tick ≤ request_of tasks starts q (suc k)
    pub short : worst ≤ (task_at tasks q).deadline
    pub within : (j : ℕ) → 1 ≤ j → j ≤ k → Finished tasks starts levels q j (request_of tasks starts q j + worst)
    pub takes : ((k ≡ 0) × (worst ≡ 0)) ⊎ Takes worst

-- A task on a level of its own, served as on the level of a processor with the demands D.
module _ (tasks : List Figures) (fair : AllFair tasks) (starts levels : ℕ → ℕ) (q : ℕ) (inside : q < length tasks)
    (D : Demands) (level : ℕ) (served : ServedAs tasks starts levels q D level) where
  abbrev c : ℕ
  c = (task_at tasks q).work

  abbrev t : ℕ
  t = (task_at tasks q).period

  abbrev request : ℕ → ℕ
  request k = request_of tasks starts q k

  abbrev due : ℕ → ℕ
  due k = deadline_of tasks starts q k

  request_at_lem : (k : ℕ) → request (suc k) ≡ starts q + k * t
  request_at_lem k = let m = ap (λ n. n * t) (let e : suc k - 1 ≡ k = omega arith in e) in omega arith

  pub next_request : (k : ℕ) → request (suc (suc k)) ≡ request (suc k) + t
  next_request k = let a = request_at_lem k in let b = request_at_lem (suc k) in let m = suc-mul k t in omega arith

  request_rises : (j k : ℕ) → 1 ≤ j → j ≤ k → request j ≤ request k
  request_rises j k pos le = let m : (j - 1) * t ≤ (k - 1) * t = mul-le-mul_right t (omega arith) in omega arith

  -- what has come by a tick is done or owed
  come : (tick : ℕ) → owing D tick level + done_by tasks starts levels q tick ≡ sum_below (requested c t (starts q)) tick
  come tick =
      let a = done-owing D level tick in
      let b = served.same tick in
      let e = sum_below_same (D level) (requested c t (starts q)) tick (λ σ l. served.own σ) in
      omega arith

  owed_at_due : (k : ℕ) → owing D (due (suc k)) level + done_by tasks starts levels q (due (suc k)) ≡ suc k * c
  owed_at_due k =
      let f = fair q inside in
      let b = come_by_due c t (starts q) (task_at tasks q).deadline k (omega arith) (omega arith) in
      let e = come (due (suc k)) in
      omega arith

  -- a request with units left at its deadline is late
  pub late_here : (k : ℕ) → 0 < owing D (due (suc k)) level → Late tasks starts levels q (suc k)
  late_here k some = let e = owed_at_due k in omega arith

  done_mono : (a b : ℕ) → a ≤ b → done_by tasks starts levels q a ≤ done_by tasks starts levels q b
  done_mono a b le =
      let e₁ = served.same a in let e₂ = served.same b in let r = done_later D level a b le in omega arith

  -- before it falls, no unit of a request is done
  undone_at_request : (k : ℕ) → done_by tasks starts levels q (request (suc k)) ≤ k * c
  undone_at_request k =
      let f = fair q inside in
      let e = come (request (suc k)) in
      let u = ap (sum_below (requested c t (starts q))) (request_at_lem k) ∙ up_to_request c t (starts q) k (omega arith) in
      omega arith

  -- a request is late if the level does not run up to its deadline from a tick by which those before it are checked
  pub late_unrun :
      (k tick worst : ℕ) → Checked tasks starts levels q k tick worst → done D level (due (suc k)) ≡ done D level tick → Late tasks starts levels q (suc k)
  late_unrun k tick worst so_far same =
      let f = fair q inside in
      let d = so_far.done_so_far in
      let s = served.same tick in
      let u = served.same (due (suc k)) in
      let m = suc-mul k c in
      omega arith

  -- One more request is checked, up to its deadline, with nothing left there; the level stopped at `stop`.
  module _ (k tick worst stop : ℕ) (so_far : Checked tasks starts levels q k tick worst)
      (stopped : Stopped D level tick (due (suc k)) stop) (none : owing D (due (suc k)) level ≡ 0) where
    all_done : done_by tasks starts levels q stop ≡ suc k * c
    all_done =
        let e = owed_at_due k in let a = stopped.all in let s = served.same stop in let u = served.same (due (suc k)) in omega arith

    pub stop_later : request (suc k) < stop
    stop_later =
        elim (cases_lt (request (suc k)) stop) [
          | inl l ↦ l
          | inr l ↦ absurd (let f = fair q inside in let a = all_done in let m = done_mono stop (request (suc k)) l in let u = undone_at_request k in let s = suc-mul k c in omega arith)
        ]

    here : Finish tasks starts levels q (suc k) stop
    here =
        record {
          finished = omega (arith, all_done);
          first = λ earlier fin. elim (cases_lt earlier tick) [
            | inl l ↦ absurd (let f = fair q inside in let d = so_far.done_so_far in let m = done_mono earlier tick (omega arith) in let s = suc-mul k c in omega arith)
            | inr l ↦ stopped.first earlier l (let e = owed_at_due k in let s = served.same earlier in let u = served.same (due (suc k)) in omega arith)
          ];
        }

    pub one_more : (new : ℕ) → new ≡ max worst (stop - request (suc k)) → Checked tasks starts levels q (suc k) (due (suc k)) new
    one_more new most =
        let f = fair q inside in
        let s = stopped in
        let old = so_far.short in
        let l = stop_later in
        record {
          done_so_far = omega (arith, owed_at_due k);
          passed = omega (arith, next_request k);
          short = omega arith;
          within = λ j pos le. elim (cases_lt k j) [
            | inl new' ↦ let e : j ≡ suc k = omega arith in let r = ap request e in let w = ap (λ n. n * c) e in let m = done_mono stop (request j + new) (omega arith) in let a = all_done in omega arith
            | inr old' ↦ let w = so_far.within j pos old' in let m = done_mono (request j + worst) (request j + new) (omega arith) in omega arith
          ];
          takes = inr (longest (cases_lt worst (stop - request (suc k))) so_far.takes);
        }
      where
        longest :
            (worst < stop - request (suc k)) ⊎ (stop - request (suc k) ≤ worst) → ((k ≡ 0) × (worst ≡ 0)) ⊎ Takes tasks starts levels q worst →
            Takes tasks starts levels q new
        longest (inl longer) old =
            let l = stop_later in
            let at : stop ≡ request (suc k) + new = omega arith in
            (omega arith, (suc k, omega arith, subst (λ x. Finish tasks starts levels q (suc k) x) at here))
        longest (inr not) (inl (first, zero')) = absurd (let l = stop_later in omega arith)
        longest (inr not) (inr takes) = subst (Takes tasks starts levels q) (let e : worst ≡ new = omega arith in e) takes

  -- All requests that fall before m + 2P are checked, where there is room: the answer is that of all requests.
  module _ (P m : ℕ) (alone : Alone tasks levels q) (spans : Spans tasks starts (through levels (levels q)) P m)
      (room : load_through tasks levels (levels q) P ≤ P) (k tick worst : ℕ) (all : Checked tasks starts levels q k tick worst)
      (enough : m + 2 * P ≤ request (suc k)) where
    some_takes : Takes tasks starts levels q worst
    some_takes = go all.takes
      where
        go : ((k ≡ 0) × (worst ≡ 0)) ⊎ Takes tasks starts levels q worst → Takes tasks starts levels q worst
        go (inl (none, _)) =
            let r = request_at_lem k in
            let z = ap (λ n. n * t) none ∙ zero-mul t in
            let s = spans.started q inside (own_through levels q) in
            let p = spans.positive in
            absurd (omega arith)
        go (inr takes) = takes

    all_finished : (j : ℕ) → Finished tasks starts levels q j (request j + worst)
    all_finished j = go (cases_lt (done_by tasks starts levels q (request j + worst)) (j * c))
      where
        early : (i : ℕ) → request i + worst ≤ m + 2 * P → done_by tasks starts levels q (request i + worst) < i * c → ⊥
        early zero far late = let z = zero-mul c in omega arith
        early (suc i) far late =
            elim (cases_lt i k) [
              | inl l ↦ let w = all.within (suc i) (omega arith) l in omega arith
              | inr l ↦ let r = request_rises (suc k) (suc i) (omega arith) (omega arith) in let p = some_takes.0 in omega arith
            ]

        go :
            (done_by tasks starts levels q (request j + worst) < j * c) ⊎ (j * c ≤ done_by tasks starts levels q (request j + worst)) →
            Finished tasks starts levels q j (request j + worst)
        go (inl late) =
            let f = fair q inside in
            let s = all.short in
            let found = undone_early tasks fair starts levels q P m inside alone spans room worst j some_takes.0 (omega arith) late in
            absurd (early found.0 found.1 found.2)
        go (inr fin) = fin

    pub never_late : NeverLate tasks starts levels q
    never_late j late =
        let w = all_finished j in
        let s = all.short in
        let m = done_mono (request j + worst) (due j) (omega arith) in
        omega arith

    pub worst_response : WorstResponse tasks starts levels q worst
    worst_response =
        record {
          within = λ j pos. has_finish tasks fair levels q inside alone starts j (request j + worst) (all_finished j);
          reached = some_takes.1;
        }

-- A processor checks the judged task request by request: the next one falls at `request`.
pub record Checking (tasks : List Figures) (starts levels : ℕ → ℕ) (q level : ℕ) (p : Processor) (request worst : ℕ) : Type 0 where
  pub D : Demands
  pub stands : Stands D p
  pub served : ServedAs tasks starts levels q D level
  pub k : ℕ
  pub at : request ≡ request_of tasks starts q (suc k)
  pub checked : Checked tasks starts levels q k p.tick worst

-- The processor ran to the deadline of the next request, and the level last ran up to `last`, if it ran.
module _ (tasks : List Figures) (fair : AllFair tasks) (starts levels : ℕ → ℕ) (q : ℕ) (inside : q < length tasks)
    (level : ℕ) (p : Processor) (next worst : ℕ) (checking : Checking tasks starts levels q level p next worst)
    (last : Option ℕ) (p' : Processor) (ran : RanOn p level last p') (there : p'.tick ≡ next + (task_at tasks q).deadline) where
  at_due : p'.tick ≡ deadline_of tasks starts q (suc checking.k)
  at_due = there ∙ ap (λ r. r + (task_at tasks q).deadline) checking.at

  owed : owing checking.D (deadline_of tasks starts q (suc checking.k)) level ≡ left_on p' level
  owed = ap (λ tick. owing checking.D tick level) (sym at_due) ∙ (ran.stands checking.D checking.stands).owes level

  pub found_late : 0 < left_on p' level → (k : ℕ) × Late tasks starts levels q k
  found_late some =
      (suc checking.k, late_here tasks fair starts levels q inside checking.D level checking.served checking.k (omega (arith, owed)))

  last_by_due : LastRun checking.D level p.tick (deadline_of tasks starts q (suc checking.k)) last
  last_by_due = subst (λ tick. LastRun checking.D level p.tick tick last) at_due (ran.stopped checking.D checking.stands)

  pub found_unrun : last ≡ None → (k : ℕ) × Late tasks starts levels q k
  found_unrun unrun = (
    suc checking.k,
    late_unrun tasks fair starts levels q inside checking.D level checking.served checking.k p.tick worst checking.checked
        (subst (LastRun checking.D level p.tick (deadline_of tasks starts q (suc checking.k))) unrun last_by_due),
  )

  module _ (none : left_on p' level ≡ 0) (stop : ℕ) (is : last ≡ Some stop) where
    stopped_at_due : Stopped checking.D level p.tick (deadline_of tasks starts q (suc checking.k)) stop
    stopped_at_due = subst (LastRun checking.D level p.tick (deadline_of tasks starts q (suc checking.k))) is last_by_due

    pub after_request : next ≤ stop
    after_request =
        let l = stop_later tasks fair starts levels q inside checking.D level checking.served checking.k p.tick worst stop checking.checked stopped_at_due (owed ∙ none) in
        omega (arith, checking.at)

    pub checks_on :
        (next' new : ℕ) → next' ≡ next + (task_at tasks q).period → new ≡ max worst (stop - next) → Checking tasks starts levels q level p' next' new
    checks_on next' new after most =
        record {
          D = checking.D;
          stands = ran.stands checking.D checking.stands;
          served = checking.served;
          k = suc checking.k;
          at = omega (arith, checking.at, next_request tasks fair starts levels q inside checking.D level checking.served checking.k);
          checked = subst (λ tick. Checked tasks starts levels q (suc checking.k) tick new) (sym at_due)
              (one_more tasks fair starts levels q inside checking.D level checking.served checking.k p.tick worst stop checking.checked stopped_at_due (owed ∙ none)
              new (most ∙ ap (λ r. max worst (stop - r)) checking.at));
        }
