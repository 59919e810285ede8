-- A task's requests, checked by computing: what it has done by a tick takes as many steps as there are ticks.
use Rattle.std.proofs.Common.{◌≡◌, ℕ, zero, suc, ◌+◌, ◌-◌, ◌*◌, ◌/◌, ◌%◌, ◌<◌, ◌≤◌, Bool, true, eqb, ltb, leb, List, [], ◌∷◌, length, inl, inr, mul-le-mul_right, div-add-mod', zero-mul, arith}
use Rattle.std.proofs.lemmas.Bool.{cases_lt, ltb-true, leb-true, eqb-true, eq-eqb}
use Rattle.periods.specs.Divisors.{Divides}
use Rattle.tasks.specs.declared.figures.Figures.{Figures}
use Rattle.tasks.specs.Figures.{is_fair}
use Rattle.tasks.proofs.Faults.{fair_from_test}
use Rattle.timeline.specs.Processor.{sum_below}
use Rattle.timeline.specs.Timeline.{task_at, demands, request_of, deadline_of, done_by, Late, NeverLate, Finished, WorstResponse}
use Rattle.timeline.specs.Laws.{AllFair, Spans, through, load_through, Alone}
use Rattle.timeline.proofs.Backlog.{backlog, both}
use Rattle.timeline.proofs.Levels.{above_of, own_of, done_is}
use Rattle.timeline.proofs.Laws.{undone_early}
use Rattle.timeline.proofs.Related.{has_finish}
use Rattle.lateness.proofs.Stops.{done_later}
use Rattle.worked.proofs.Tested.{all_below, all_at, all_hold, holds, implies, implied}

-- all of some tasks are fair
abbrev pub are_fair : List Figures → Bool
are_fair tasks = all_below (λ p. is_fair (task_at tasks p)) (length tasks)

pub all_fair : (tasks : List Figures) → are_fair tasks ≡ true → AllFair tasks
all_fair tasks fair p l = fair_from_test (task_at tasks p) (all_at (λ p. is_fair (task_at tasks p)) (length tasks) fair p l)

module _ (tasks : List Figures) (starts levels : ℕ → ℕ) (q : ℕ) where
  -- in how many ticks before a tick the task ran: what came, and what those above leave less what all leave
  abbrev ran : ℕ → ℕ
  ran tick =
      (sum_below (own_of tasks starts levels q) tick + backlog (above_of tasks starts levels q) tick)
      - backlog (both (above_of tasks starts levels q) (own_of tasks starts levels q)) tick

  -- none shares the task's level
  abbrev own_level : ℕ → Bool
  own_level p = implies (eqb (levels p) (levels q)) (eqb p q)

  abbrev is_alone : Bool
  is_alone = all_below own_level (length tasks)

  alone : is_alone ≡ true → Alone tasks levels q
  alone test p l e =
      eqb-true p q (implied (eqb (levels p) (levels q)) (eqb p q) (all_at own_level (length tasks) test p l) (eq-eqb (levels p) (levels q) e))

  ran_is : q < length tasks → is_alone ≡ true → (tick : ℕ) → done_by tasks starts levels q tick ≡ ran tick
  ran_is inside test tick = omega (arith, done_is tasks starts levels q inside (alone test) tick)

  -- request k is late
  module _ (k : ℕ) where
    abbrev late_tests : List Bool
    late_tests = ltb q (length tasks) ∷ is_alone ∷ ltb (ran (deadline_of tasks starts q k)) (k * (task_at tasks q).work) ∷ []

    abbrev pub is_late : Bool
    is_late = all_hold late_tests

    pub is_late_lem : is_late ≡ true → Late tasks starts levels q k
    is_late_lem test =
        let inside = ltb-true q (length tasks) (holds late_tests test 0) in
        let late = ltb-true (ran (deadline_of tasks starts q k)) (k * (task_at tasks q).work) (holds late_tests test 2) in
        omega (arith, ran_is inside (holds late_tests test 1) (deadline_of tasks starts q k))

  -- The tasks on its level and above it come round every P ticks, start by m, and bring no more than P units in P ticks.
  -- Each of the first n requests is done within R ticks, where later ones fall too late to decide; request j takes all R.
  module _ (P m R n j : ℕ) where
    abbrev comes_round : ℕ → Bool
    comes_round p = implies (through levels (levels q) p) (eqb (P % (task_at tasks p).period) 0)

    abbrev starts_by : ℕ → Bool
    starts_by p = implies (through levels (levels q) p) (leb (starts p) m)

    abbrev is_done : ℕ → Bool
    is_done i = leb (suc i * (task_at tasks q).work) (ran (request_of tasks starts q (suc i) + R))

    abbrev tests : List Bool
    tests =
        ltb q (length tasks) ∷ are_fair tasks ∷ is_alone
        ∷ ltb 0 P ∷ all_below comes_round (length tasks) ∷ all_below starts_by (length tasks) ∷ leb (load_through tasks levels (levels q) P) P
        ∷ ltb 0 R ∷ leb R (task_at tasks q).deadline ∷ ltb (m + 2 * P) (request_of tasks starts q (suc n) + R) ∷ all_below is_done n
        ∷ ltb 0 j ∷ ltb (ran (request_of tasks starts q j + R - 1)) (j * (task_at tasks q).work) ∷ []

    abbrev pub is_worst : Bool
    is_worst = all_hold tests

    module _ (test : is_worst ≡ true) where
      inside : q < length tasks
      inside = ltb-true q (length tasks) (holds tests test 0)

      fair : AllFair tasks
      fair = all_fair tasks (holds tests test 1)

      divides : (p : ℕ) → P % (task_at tasks p).period ≡ 0 → Divides (task_at tasks p).period P
      divides p none = (P / (task_at tasks p).period, omega (arith, div-add-mod' P (task_at tasks p).period))

      spans : Spans tasks starts (through levels (levels q)) P m
      spans =
          record {
            positive = ltb-true 0 P (holds tests test 3);
            common = λ p l e. divides p (eqb-true (P % (task_at tasks p).period) 0 (implied (through levels (levels q) p) (eqb (P % (task_at tasks p).period) 0) (all_at comes_round (length tasks) (holds tests test 4) p l) e));
            started = λ p l e. leb-true (starts p) m (implied (through levels (levels q) p) (leb (starts p) m) (all_at starts_by (length tasks) (holds tests test 5) p l) e);
          }

      room : load_through tasks levels (levels q) P ≤ P
      room = leb-true (load_through tasks levels (levels q) P) P (holds tests test 6)

      short : R ≤ (task_at tasks q).deadline
      short = leb-true R (task_at tasks q).deadline (holds tests test 8)

      enough : m + 2 * P < request_of tasks starts q (suc n) + R
      enough = ltb-true (m + 2 * P) (request_of tasks starts q (suc n) + R) (holds tests test 9)

      done_is_ran : (tick : ℕ) → done_by tasks starts levels q tick ≡ ran tick
      done_is_ran tick = ran_is inside (holds tests test 2) tick

      none_early :
          (i : ℕ) → request_of tasks starts q i + R ≤ m + 2 * P →
          done_by tasks starts levels q (request_of tasks starts q i + R) < i * (task_at tasks q).work → ⊥
      none_early zero far late = let z = zero-mul (task_at tasks q).work in omega arith
      none_early (suc i) far late =
          elim (cases_lt i n) [
            | inl l ↦
                let ok = leb-true (suc i * (task_at tasks q).work) (ran (request_of tasks starts q (suc i) + R)) (all_at is_done n (holds tests test 10) i l) in
                omega (arith, done_is_ran (request_of tasks starts q (suc i) + R))
            | inr l ↦
                let r : (suc n - 1) * (task_at tasks q).period ≤ (suc i - 1) * (task_at tasks q).period = mul-le-mul_right (task_at tasks q).period (omega arith) in
                omega (arith, enough)
          ]

      all_done : (k : ℕ) → Finished tasks starts levels q k (request_of tasks starts q k + R)
      all_done k =
          elim (cases_lt (done_by tasks starts levels q (request_of tasks starts q k + R)) (k * (task_at tasks q).work)) [
            | inl late ↦
                let f = fair q inside in
                let s = short in
                let found = undone_early tasks fair starts levels q P m inside (alone (holds tests test 2)) spans room R k (ltb-true 0 R (holds tests test 7)) (omega arith) late in
                absurd (none_early found.0 found.1 found.2)
            | inr fin ↦ fin
          ]

      pub never_late : NeverLate tasks starts levels q
      never_late k late =
          let r = done_later (demands tasks starts levels) (levels q) (request_of tasks starts q k + R) (deadline_of tasks starts q k) (omega (arith, short)) in
          omega (arith, all_done k)

      pub worst_response : WorstResponse tasks starts levels q R
      worst_response =
          record {
            within = λ k pos. has_finish tasks fair levels q inside (alone (holds tests test 2)) starts k (request_of tasks starts q k + R) (all_done k);
            reached = (j, ltb-true 0 j (holds tests test 11), record { finished = all_done j; first = not_before });
          }
        where
          not_before : (earlier : ℕ) → Finished tasks starts levels q j earlier → request_of tasks starts q j + R ≤ earlier
          not_before earlier fin =
              elim (cases_lt earlier (request_of tasks starts q j + R)) [
                | inl l ↦
                    let undone = ltb-true (ran (request_of tasks starts q j + R - 1)) (j * (task_at tasks q).work) (holds tests test 12) in
                    let r = done_later (demands tasks starts levels) (levels q) earlier (request_of tasks starts q j + R - 1) (omega arith) in
                    absurd (omega (arith, done_is_ran (request_of tasks starts q j + R - 1)))
                | inr l ↦ l
              ]
