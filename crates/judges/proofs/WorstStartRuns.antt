-- The worst-start judge's way to its number.
use Rattle.std.proofs.Common.{◌≡◌, ℕ, ◌+◌, ◌*◌, ◌<◌, ◌≤◌, Bool, List, length, arith}
use Rattle.tasks.specs.declared.figures.Figures.{Figures}
use Rattle.timeline.specs.Laws.{AllFair, rounds_in}
use Rattle.timeline.specs.Processor.{sum_below}
use Rattle.timeline.specs.Timeline.{task_at}
use Rattle.timeline.proofs.Members.{counted}
use Rattle.judges.specs.WorstStart.{work_below, SettlesInTime, InTimeAtWorst}
use Rattle.judges.specs.Above.{member}
use Rattle.judges.specs.WorstStartLaws.{work_rises}

-- the work that so many ticks can bring of one task
abbrev pub work_of : ℕ → Figures → ℕ
work_of ticks task = rounds_in ticks task.period * task.work

-- the work of the judged task and of those above it among the first places
abbrev pub work_up_to : List Figures → ℕ → (ℕ → Bool) → ℕ → ℕ → ℕ
work_up_to tasks judged above ticks n =
    (task_at tasks judged).work + sum_below (counted (member judged above) (λ p. work_of ticks (task_at tasks p))) n

-- ticks that bring no less work than they are, and pass no number of ticks that settles
abbrev pub Rising : List Figures → ℕ → (ℕ → Bool) → ℕ → Type 0
Rising tasks judged above ticks =
    (ticks ≤ work_below tasks judged above ticks) × ((x : ℕ) → work_below tasks judged above x ≡ x → ticks ≤ x)

module _ (tasks : List Figures) (judged : ℕ) (above : ℕ → Bool) (ticks : ℕ) where
  pub rising_more :
      (work : ℕ) → AllFair tasks → work ≡ work_below tasks judged above ticks → Rising tasks judged above ticks → Rising tasks judged above work
  rising_more work fair is rising = (
    (let more = work_rises tasks judged above fair ticks work (omega (arith, rising.0)) in omega arith),
    λ x settled. let more = work_rises tasks judged above fair ticks x (rising.1 x settled) in omega arith,
  )

  module _ (starts : ℕ → ℕ) (rising : Rising tasks judged above ticks) where
    pub settled_in_time :
        (work : ℕ) → judged < length tasks → work ≡ work_below tasks judged above ticks → work ≡ ticks → ticks ≤ (task_at tasks judged).deadline →
        SettlesInTime tasks starts judged above ticks
    settled_in_time work inside is settled within =
        record {
          placed = inside;
          settles = record { enough = omega arith; settled = omega arith; least = λ x enough e. rising.1 x e };
          in_time = within;
        }

    pub none_in_time : (task_at tasks judged).deadline < ticks → InTimeAtWorst tasks starts judged above → ⊥
    none_in_time past ruled = omega (arith, rising.1 ruled.0 ruled.1.settles.settled, ruled.1.in_time)
