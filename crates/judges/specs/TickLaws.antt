-- The laws of the tick judge.
use Rattle.std.specs.Prelude.{◌≡◌, ℕ, zero, suc, ◌-◌, ◌*◌, ◌<◌, ◌≤◌, Bool, ◌⊎◌, List, length}
use Rattle.std.proofs.Common.{sym, ap₂, subst, inl, inr, zero-mul, one-mul, arith}
use Rattle.std.proofs.lemmas.Bool.{cases_lt}
use Rattle.std.proofs.lemmas.Bool.Decides.{nat_tests}
use Rattle.periods.proofs.Starts.{related_sym}
use Rattle.tasks.specs.declared.figures.Figures.{Figures}
use Rattle.tasks.specs.Loads.{periods_in}
use Rattle.timeline.specs.Laws.{AllFair, Alone}
use Rattle.timeline.specs.Requests.{requested}
use Rattle.timeline.specs.Timeline.{task_at, demanded, deadline_of, done_by, Late, NeverLate, WorstResponse, below_those}
use Rattle.timeline.proofs.Backlog.{below_both}
use Rattle.timeline.proofs.Lateness.{due, Behind}
use Rattle.timeline.proofs.Laws.{late_behind, behind_late}
use Rattle.timeline.proofs.Levels.{above_of, own_of, done_is}
use Rattle.timeline.proofs.Moves.{less_behind}
use Rattle.timeline.proofs.Related.{starts_relate_law}
use Rattle.timeline.proofs.Streams.{up_to_start}
use Rattle.judges.specs.Meaning.{SameAt, Lawful, Measured}
use Rattle.judges.specs.Tick.{InTime, WorstInTime}
use Rattle.judges.specs.Above.{alone_below, member, above_from_member, member_from_above, members_most, Fewer, lawful_if_stays}

-- What is late below fewer tasks is late below more.
module _ (tasks tasks' : List Figures) (starts starts' : ℕ → ℕ) (judged : ℕ) (above above' : ℕ → Bool) (fair : AllFair tasks)
    (fair' : AllFair tasks') (fewer : Fewer tasks tasks' starts starts' judged above above') (inside : judged < length tasks) where
  same_demanded : (q : ℕ) → SameAt tasks tasks' starts starts' q → (τ : ℕ) → demanded tasks' starts' q τ ≡ demanded tasks starts q τ
  same_demanded q at τ =
      sym (ap₂ (λ (task : Figures) (start : ℕ). requested task.work task.period start τ) at.task at.start)

  above_less : (τ : ℕ) → above_of tasks' starts' (below_those judged above') judged τ ≤ above_of tasks starts (below_those judged above) judged τ
  above_less τ =
      members_most (member judged above') (member judged above) (λ q. demanded tasks' starts' q τ) (λ q. demanded tasks starts q τ)
      (length tasks') (length tasks)
      (λ q l is.
      let kept = fewer.kept q (above_from_member tasks' judged above' q l is) in
      (kept.0.held, member_from_above tasks judged above q kept.0, omega (arith, same_demanded q kept.1 τ)))

  late_before : (k : ℕ) → Late tasks' starts' (below_those judged above') judged k → Late tasks starts (below_those judged above) judged k
  late_before zero late = let z = zero-mul (task_at tasks' judged).work in absurd (omega arith)
  late_before (suc k) late =
      let b = late_behind tasks' fair' starts' (below_those judged above') judged fewer.inside (alone_below tasks' judged above') k late in
      let at : due (task_at tasks' judged).period (starts' judged) (task_at tasks' judged).deadline (suc k)
      ≡ due (task_at tasks judged).period (starts judged) (task_at tasks judged).deadline (suc k) =
      sym (ap₂ (λ (task : Figures) (start : ℕ). due task.period start task.deadline (suc k)) fewer.same.task fewer.same.start) in
      behind_late tasks fair starts (below_those judged above) judged inside (alone_below tasks judged above) k
      (subst (λ x. Behind 0 (above_of tasks starts (below_those judged above) judged) (own_of tasks starts (below_those judged above) judged) x) at
      (less_behind 0 (above_of tasks starts (below_those judged above) judged) (own_of tasks starts (below_those judged above) judged)
      (above_of tasks' starts' (below_those judged above') judged) (own_of tasks' starts' (below_those judged above') judged)
      above_less (λ τ. omega (arith, same_demanded judged fewer.same τ)) _ b))

pub tick_lawful : Lawful InTime
tick_lawful =
    lawful_if_stays InTime (λ tasks starts judged above in_time. in_time.0)
    (λ tasks tasks' starts starts' judged above above' fair fair' fewer in_time. (
      fewer.inside,
      λ k late. in_time.1 k (late_before tasks tasks' starts starts' judged above above' fair fair' fewer in_time.0 k late),
    ))
    (λ tasks starts judged above fair in_time. in_time.1)
    (λ tasks starts starts' judged above fair rel in_time. (
      in_time.0,
      λ k late.
          let back =
          (starts_relate_law tasks fair).late starts' starts (below_those judged above) judged in_time.0 (alone_below tasks judged above)
          (related_sym (periods_in tasks) starts starts' rel) k late
          in
          in_time.1 back.0 back.1,
    ))

-- The worst response is one number, from the work to the deadline.
module _ (tasks : List Figures) (starts levels : ℕ → ℕ) (q : ℕ) where
  response_least : (n other : ℕ) → WorstResponse tasks starts levels q n → WorstResponse tasks starts levels q other → n ≤ other
  response_least n other worst worst' =
      let k = worst.reached.0 in
      let finish = worst'.within k worst.reached.1 in
      let first = worst.reached.2.first finish.0 finish.1.finished in
      omega (arith, finish.2)

  -- nothing is done before the first request
  done_since : q < length tasks → Alone tasks levels q → (τ : ℕ) → done_by tasks starts levels q τ ≤ τ - starts q
  done_since inside alone zero = omega arith
  done_since inside alone (suc τ) = go (cases_lt τ (starts q)) (done_since inside alone τ)
    where
      go : (τ < starts q) ⊎ (starts q ≤ τ) → done_by tasks starts levels q τ ≤ τ - starts q → done_by tasks starts levels q (suc τ) ≤ suc τ - starts q
      go (inl early) _ =
          let none = up_to_start (task_at tasks q).work (task_at tasks q).period (starts q) (suc τ) early in
          let is = done_is tasks starts levels q inside alone (suc τ) in
          let low = below_both (above_of tasks starts levels q) (own_of tasks starts levels q) (suc τ) in
          omega arith
      go (inr late) ih = grind (arith, nat_tests)

  response_within :
      AllFair tasks → q < length tasks → Alone tasks levels q → NeverLate tasks starts levels q → (n : ℕ) → WorstResponse tasks starts levels q n →
      ((task_at tasks q).work ≤ n) × (n ≤ (task_at tasks q).deadline)
  response_within fair inside alone never n worst = (low, high (cases_lt (done_by tasks starts levels q (deadline_of tasks starts q k)) (k * (task_at tasks q).work)))
    where
      low : (task_at tasks q).work ≤ n
      low =
          let finish = worst.within 1 (omega arith) in
          let done = finish.1.finished in
          let since = done_since inside alone finish.0 in
          let z = zero-mul (task_at tasks q).period in
          let o = one-mul (task_at tasks q).work in
          omega (arith, finish.2)

      k : ℕ
      k = worst.reached.0

      high :
          Late tasks starts levels q k ⊎ (k * (task_at tasks q).work ≤ done_by tasks starts levels q (deadline_of tasks starts q k)) →
          n ≤ (task_at tasks q).deadline
      high (inl late) = absurd (never k late)
      high (inr done) = let first = worst.reached.2.first (deadline_of tasks starts q k) done in omega arith

pub tick_measured : Measured InTime WorstInTime
tick_measured =
    record {
      ruled = λ tasks starts judged above n is. is.0;
      one = λ tasks starts judged above n other is is'.
          let low = response_least tasks starts (below_those judged above) judged n other is.1 is'.1 in
          let high = response_least tasks starts (below_those judged above) judged other n is'.1 is.1 in
          omega arith;
      within = λ tasks starts judged above n fair is.
          response_within tasks starts (below_those judged above) judged fair is.0.0 (alone_below tasks judged above) is.0.1 n is.1;
    }
