-- What a judge means and the laws that it shows, and the number that a measuring judge gives besides.
use Rattle.std.specs.Prelude.{◌≡◌, ℕ, ◌<◌, ◌≤◌, Bool, true, false, List, length, Some, None, Option}
use Rattle.periods.specs.Listed.{Related}
use Rattle.tasks.specs.declared.figures.Figures.{Figures}
use Rattle.tasks.specs.declared.judged.Judged.{Judged}
pub use Rattle.tasks.specs.Cases.{tasks_of, starts_of}
use Rattle.tasks.specs.Loads.{periods_in}
use Rattle.tasks.specs.Places.{has}
use Rattle.timeline.specs.Laws.{AllFair}
use Rattle.timeline.specs.Timeline.{task_at, InTimeBelow}

-- A fixed yes or no for any tasks with any whole starts, a judged place and a set of places above it. Places count from 0.
abbrev pub Meaning : Type 1
Meaning = List Figures → (ℕ → ℕ) → ℕ → (ℕ → Bool) → Type 0

-- the same at a judged task: its case has the tasks and the starts
abbrev pub MeaningAt : Meaning → Judged → Type 0
MeaningAt M judged = M (tasks_of judged.case.now) (starts_of judged.case.now) judged.place (has judged.above.now)

-- the places that count as above: those that hold a task and are not the judged one
pub record Above (tasks : List Figures) (judged : ℕ) (above : ℕ → Bool) (q : ℕ) : Type 0 where
  pub held : q < length tasks
  pub other : q ≡ judged → ⊥
  pub chosen : above q ≡ true

-- the same task with the same start stands at a place of both
pub record SameAt (tasks tasks' : List Figures) (starts starts' : ℕ → ℕ) (q : ℕ) : Type 0 where
  pub task : task_at tasks q ≡ task_at tasks' q
  pub start : starts q ≡ starts' q

-- The laws, over all tasks with fair figures and all starts.
pub record Lawful (M : Meaning) : Type 0 where
  -- a judged place without a task gets no
  pub placed :
      (tasks : List Figures) (starts : ℕ → ℕ) (judged : ℕ) (above : ℕ → Bool) → M tasks starts judged above → judged < length tasks
  -- tasks that are neither judged nor above do not matter
  pub others :
      (tasks tasks' : List Figures) (starts starts' : ℕ → ℕ) (judged : ℕ) (above above' : ℕ → Bool) → AllFair tasks → AllFair tasks' →
      judged < length tasks' → SameAt tasks tasks' starts starts' judged →
      ((q : ℕ) → Above tasks judged above q → Above tasks' judged above' q × SameAt tasks tasks' starts starts' q) →
      ((q : ℕ) → Above tasks' judged above' q → Above tasks judged above q) →
      M tasks starts judged above → M tasks' starts' judged above'
  -- taking a task out of the set above never turns yes into no
  pub fewer :
      (tasks : List Figures) (starts : ℕ → ℕ) (judged : ℕ) (above less : ℕ → Bool) → AllFair tasks →
      ((q : ℕ) → Above tasks judged less q → Above tasks judged above q) → M tasks starts judged above → M tasks starts judged less
  -- yes only if no request of the judged task is late on the endless timeline, below those above it
  pub sound :
      (tasks : List Figures) (starts : ℕ → ℕ) (judged : ℕ) (above : ℕ → Bool) → AllFair tasks →
      M tasks starts judged above → InTimeBelow tasks starts judged above
  -- related starts get the same ruling
  pub related :
      (tasks : List Figures) (starts starts' : ℕ → ℕ) (judged : ℕ) (above : ℕ → Bool) → AllFair tasks →
      Related (periods_in tasks) starts starts' → M tasks starts judged above → M tasks starts' judged above

-- a ruling says yes exactly if the meaning holds
abbrev pub Rules : Bool → Type 0 → Type 0
Rules true holds = holds
Rules false holds = holds → ⊥

-- The reckoned response of the judged task is this number, for any tasks with any whole starts.
abbrev pub Reckoning : Type 1
Reckoning = List Figures → (ℕ → ℕ) → ℕ → (ℕ → Bool) → ℕ → Type 0

-- the same at a judged task
abbrev pub ReckonedAt : Reckoning → Judged → ℕ → Type 0
ReckonedAt N judged = N (tasks_of judged.case.now) (starts_of judged.case.now) judged.place (has judged.above.now)

-- The laws of the number, beside the ruling.
pub record Measured (M : Meaning) (N : Reckoning) : Type 0 where
  -- there is a number only on a yes
  pub ruled :
      (tasks : List Figures) (starts : ℕ → ℕ) (judged : ℕ) (above : ℕ → Bool) (n : ℕ) → N tasks starts judged above n →
      M tasks starts judged above
  -- there is one at most
  pub one :
      (tasks : List Figures) (starts : ℕ → ℕ) (judged : ℕ) (above : ℕ → Bool) (n other : ℕ) → N tasks starts judged above n →
      N tasks starts judged above other → n ≡ other
  -- it lies from the work of the judged task to its deadline
  pub within :
      (tasks : List Figures) (starts : ℕ → ℕ) (judged : ℕ) (above : ℕ → Bool) (n : ℕ) → AllFair tasks →
      N tasks starts judged above n → ((task_at tasks judged).work ≤ n) × (n ≤ (task_at tasks judged).deadline)

-- a response is told exactly on a yes, and it is the reckoned one
abbrev pub Tells : Option ℕ → Type 0 → (ℕ → Type 0) → Type 0
Tells None holds reckoned = holds → ⊥
Tells (Some n) holds reckoned = reckoned n
