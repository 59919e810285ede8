-- The endless timeline of periodic tasks on one processor. Tasks and starts are given by place, counted from 0.
use Rattle.std.specs.Prelude.{ℕ, ◌+◌, ◌*◌, ◌<◌, ◌≤◌, Bool, cond, List, length, ◌==◌, slice_index_or}
use Rattle.tasks.specs.declared.figures.Figures.{Figures}
use Rattle.timeline.specs.Processor.{Demands, sum_below, done}
use Rattle.timeline.specs.Requests.{request_tick, requested}

-- the task at a place; past the end one that asks for nothing
abbrev pub task_at : List Figures → ℕ → Figures
task_at tasks q = slice_index_or tasks q (record { work = 0; period = 0; deadline = 0 })

-- the units that the task at a place demands at a tick
abbrev pub demanded : List Figures → (ℕ → ℕ) → ℕ → ℕ → ℕ
demanded tasks starts q tick = requested (task_at tasks q).work (task_at tasks q).period (starts q) tick

-- what each level demands, where each place has a level; the smaller its level, the higher its priority
abbrev pub demands : List Figures → (ℕ → ℕ) → (ℕ → ℕ) → Demands
demands tasks starts levels level tick =
    sum_below (λ q. cond (levels q == level) (demanded tasks starts q tick) 0) (length tasks)

-- the tick of request k of the task at a place, and its deadline
abbrev pub request_of : List Figures → (ℕ → ℕ) → ℕ → ℕ → ℕ
request_of tasks starts q k = request_tick (starts q) (task_at tasks q).period k

abbrev pub deadline_of : List Figures → (ℕ → ℕ) → ℕ → ℕ → ℕ
deadline_of tasks starts q k = request_of tasks starts q k + (task_at tasks q).deadline

-- The task at place q, on a level of its own.
module _ (tasks : List Figures) (starts levels : ℕ → ℕ) (q : ℕ) where
  -- in how many ticks before a tick the task ran
  abbrev pub done_by : ℕ → ℕ
  done_by tick = done (demands tasks starts levels) (levels q) tick

  -- Units go to the oldest unfinished request: k requests are finished as soon as the work of k requests is done.
  abbrev pub Finished : ℕ → ℕ → Type 0
  Finished k tick = k * (task_at tasks q).work ≤ done_by tick

  -- request k is late: it is not finished by its deadline
  abbrev pub Late : ℕ → Type 0
  Late k = done_by (deadline_of tasks starts q k) < k * (task_at tasks q).work

  abbrev pub NeverLate : Type 0
  NeverLate = (k : ℕ) → Late k → ⊥

  -- the finish of request k: one more than the tick of its last unit, so the first tick before which it is finished
  pub record Finish (k tick : ℕ) : Type 0 where
    pub finished : Finished k tick
    pub first : (earlier : ℕ) → Finished k earlier → tick ≤ earlier

  -- the largest finish minus request tick, over all requests
  pub record WorstResponse (response : ℕ) : Type 0 where
    pub within : (k : ℕ) → 1 ≤ k → (tick : ℕ) × Finish k tick × (tick ≤ request_of tasks starts q k + response)
    pub reached : (k : ℕ) × (1 ≤ k) × Finish k (request_of tasks starts q k + response)

-- the judged task runs below those above it, and all others run below the judged task
abbrev pub below_those : ℕ → (ℕ → Bool) → ℕ → ℕ
below_those judged above q = cond (q == judged) 2 (cond (above q) 1 3)

-- no request of the judged task is late, where it runs below those above it; those above may be late
abbrev pub InTimeBelow : List Figures → (ℕ → ℕ) → ℕ → (ℕ → Bool) → Type 0
InTimeBelow tasks starts judged above = NeverLate tasks starts (below_those judged above) judged
