-- A task below those of smaller level is served as on the timeline of all the tasks.
use Rattle.std.proofs.Common.{◌≡◌, ℕ, ◌<◌, Bool, ltb, List, length, inl, inr, arith}
use Rattle.std.proofs.lemmas.Bool.{cases_eq}
use Rattle.std.proofs.lemmas.Bool.Decides.{nat_tests}
use Rattle.tasks.specs.declared.figures.Figures.{Figures}
use Rattle.timeline.specs.Laws.{Alone}
use Rattle.timeline.specs.Timeline.{done_by, deadline_of, below_those, InTimeBelow, Late, NeverLate, Finish, WorstResponse}
use Rattle.timeline.proofs.Laws.{independent_law}
use Rattle.lateness.proofs.Hosted.{judged_alone}

module _
    (tasks : List Figures) (starts levels : ℕ → ℕ) (place : ℕ) (above : ℕ → Bool) (held : place < length tasks)
    (alone : Alone tasks levels place)
    (smaller : (p : ℕ) → p < length tasks → (p ≡ place → ⊥) → above p ≡ ltb (levels p) (levels place)) where
  same_above : (p : ℕ) → p < length tasks → ltb (below_those place above p) (below_those place above place) ≡ ltb (levels p) (levels place)
  same_above p inside =
      elim (cases_eq p place) [
        | inl same ↦ grind (arith, nat_tests)
        | inr other ↦ let is = smaller p inside other in grind (arith, nat_tests)
      ]

  same_done : (tick : ℕ) → done_by tasks starts (below_those place above) place tick ≡ done_by tasks starts levels place tick
  same_done =
      independent_law tasks starts (below_those place above) levels place held (judged_alone tasks place above) alone same_above

  pub never_late_in_order : InTimeBelow tasks starts place above → NeverLate tasks starts levels place
  never_late_in_order never k late = never k (omega (arith, same_done (deadline_of tasks starts place k)))

  pub late_in_order : (k : ℕ) → Late tasks starts (below_those place above) place k → Late tasks starts levels place k
  late_in_order k late = omega (arith, same_done (deadline_of tasks starts place k))

  finish_in_order : (k tick : ℕ) → Finish tasks starts (below_those place above) place k tick → Finish tasks starts levels place k tick
  finish_in_order k tick finish = record {
    finished = omega (arith, finish.finished, same_done tick);
    first = λ earlier done. finish.first earlier (omega (arith, same_done earlier));
  }

  pub response_in_order : (R : ℕ) → WorstResponse tasks starts (below_those place above) place R → WorstResponse tasks starts levels place R
  response_in_order R worst = record {
    within = λ k counted. let (tick, finish, soon) = worst.within k counted in (tick, finish_in_order k tick finish, soon);
    reached = let (k, counted, finish) = worst.reached in (k, counted, finish_in_order k _ finish);
  }
