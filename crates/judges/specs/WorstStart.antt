-- The worst-start judge: the judged task below those above it, if all of them start at once.
use Rattle.std.specs.Prelude.{◌≡◌, ℕ, ◌<◌, ◌≤◌, Bool, List, length}
use Rattle.tasks.specs.declared.figures.Figures.{Figures}
use Rattle.timeline.specs.Laws.{work_in}
use Rattle.timeline.specs.Timeline.{task_at, below_those}
use Rattle.judges.specs.Meaning.{Meaning}

-- the work that so many ticks can bring of the judged task and those above it
abbrev pub work_below : List Figures → ℕ → (ℕ → Bool) → ℕ → ℕ
work_below tasks judged above ticks = work_in tasks (below_those judged above) judged ticks

-- R is the least number of ticks, from the work of the judged task on, that bring just as much work
pub record Settles (tasks : List Figures) (judged : ℕ) (above : ℕ → Bool) (R : ℕ) : Type 0 where
  pub enough : (task_at tasks judged).work ≤ R
  pub settled : work_below tasks judged above R ≡ R
  pub least : (x : ℕ) → (task_at tasks judged).work ≤ x → work_below tasks judged above x ≡ x → R ≤ x

-- the response is that number, if it is at most the deadline
pub record SettlesInTime (tasks : List Figures) (starts : ℕ → ℕ) (judged : ℕ) (above : ℕ → Bool) (R : ℕ) : Type 0 where
  pub placed : judged < length tasks
  pub settles : Settles tasks judged above R
  pub in_time : R ≤ (task_at tasks judged).deadline

-- yes exactly if there is such a response
abbrev pub InTimeAtWorst : Meaning
InTimeAtWorst tasks starts judged above = (R : ℕ) × SettlesInTime tasks starts judged above R
