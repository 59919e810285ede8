-- Laws of the endless timeline, for any tasks with fair figures and any starts.
use Rattle.std.specs.Prelude.{◌≡◌, ℕ, ◌+◌, ◌-◌, ◌*◌, ◌/◌, ◌<◌, ◌≤◌, Bool, true, cond, List, length, nat_le, nat_lt}
use Rattle.periods.specs.Divisors.{Divides}
use Rattle.periods.specs.Listed.{Related}
use Rattle.tasks.specs.declared.figures.Figures.{Figures}
use Rattle.tasks.specs.Figures.{Fair}
use Rattle.tasks.specs.Loads.{load_in, periods_in}
use Rattle.timeline.specs.Processor.{sum_below, ready, runs}
use Rattle.timeline.specs.Timeline.{task_at, demands, done_by, deadline_of, Late, NeverLate, WorstResponse}

abbrev pub AllFair : List Figures → Type 0
AllFair tasks = (q : ℕ) → q < length tasks → Fair (task_at tasks q)

-- P is a common multiple of the periods of some of the tasks, and none of these starts after m
pub record Spans (tasks : List Figures) (starts : ℕ → ℕ) (among : ℕ → Bool) (P m : ℕ) : Type 0 where
  pub positive : 0 < P
  pub common : (q : ℕ) → q < length tasks → among q ≡ true → Divides (task_at tasks q).period P
  pub started : (q : ℕ) → q < length tasks → among q ≡ true → starts q ≤ m

-- the places on a level and above it
abbrev pub through : (ℕ → ℕ) → ℕ → ℕ → Bool
through levels level q = nat_le (levels q) level

-- the units that P ticks bring of the tasks on a level and above it
abbrev pub load_through : List Figures → (ℕ → ℕ) → ℕ → ℕ → ℕ
load_through tasks levels level P =
    sum_below (λ q. cond (through levels level q) ((task_at tasks q).work * (P / (task_at tasks q).period)) 0) (length tasks)

-- no other task has the level of q
abbrev pub Alone : List Figures → (ℕ → ℕ) → ℕ → Type 0
Alone tasks levels q = (p : ℕ) → p < length tasks → levels p ≡ levels q → p ≡ q

-- With a load of at most P, who runs and what is left repeat every P ticks from m + P on.
abbrev pub Repeats : List Figures → Type 0
Repeats tasks =
    (starts levels : ℕ → ℕ) (P m : ℕ) → Spans tasks starts (λ q. true) P m → load_in P tasks ≤ P → (tick level : ℕ) → m + P ≤ tick →
    (ready (demands tasks starts levels) (P + tick) level ≡ ready (demands tasks starts levels) tick level)
    × (runs (demands tasks starts levels) (P + tick) level ≡ runs (demands tasks starts levels) tick level)

-- With a load of at most P down to its level, a task that is ever late is late at a deadline up to m + 2P.
abbrev pub Decides : List Figures → Type 0
Decides tasks =
    (starts levels : ℕ → ℕ) (q P m : ℕ) → q < length tasks → Alone tasks levels q → Spans tasks starts (through levels (levels q)) P m →
    load_through tasks levels (levels q) P ≤ P → (k : ℕ) → Late tasks starts levels q k →
    (early : ℕ) × (deadline_of tasks starts q early ≤ m + 2 * P) × Late tasks starts levels q early

-- With a load above P down to its level, a task is late.
abbrev pub Overloaded : List Figures → Type 0
Overloaded tasks =
    (starts levels : ℕ → ℕ) (q P m : ℕ) → q < length tasks → Alone tasks levels q → Spans tasks starts (through levels (levels q)) P m →
    P < load_through tasks levels (levels q) P → (k : ℕ) × Late tasks starts levels q k

-- How a task's requests are served depends neither on the tasks below it nor on the order among those above it.
abbrev pub Independent : List Figures → Type 0
Independent tasks =
    (starts levels others : ℕ → ℕ) (q : ℕ) → q < length tasks → Alone tasks levels q → Alone tasks others q →
    ((p : ℕ) → p < length tasks → nat_lt (levels p) (levels q) ≡ nat_lt (others p) (others q)) → (tick : ℕ) →
    done_by tasks starts levels q tick ≡ done_by tasks starts others q tick

-- Fewer tasks above, or less work of any task, never make a request late.
abbrev pub LessIsNeverLater : List Figures → Type 0
LessIsNeverLater tasks =
    (lighter : List Figures) → length lighter ≡ length tasks → AllFair lighter →
    ((p : ℕ) → p < length tasks → ((task_at lighter p).work ≤ (task_at tasks p).work) × ((task_at lighter p).period ≡ (task_at tasks p).period)) →
    (starts levels fewer : ℕ → ℕ) (q : ℕ) → q < length tasks → (task_at lighter q).deadline ≡ (task_at tasks q).deadline →
    Alone tasks levels q → Alone tasks fewer q →
    ((p : ℕ) → p < length tasks → fewer p < fewer q → levels p < levels q) → (k : ℕ) →
    Late lighter starts fewer q k → Late tasks starts levels q k

-- Related starts do not change whether a task is ever late, nor its worst response.
pub record StartsRelate (tasks : List Figures) : Type 0 where
  pub late :
      (starts others levels : ℕ → ℕ) (q : ℕ) → q < length tasks → Alone tasks levels q →
      Related (periods_in tasks) starts others → (k : ℕ) → Late tasks starts levels q k →
      (j : ℕ) × Late tasks others levels q j
  pub response :
      (starts others levels : ℕ → ℕ) (q response : ℕ) → q < length tasks → Alone tasks levels q →
      Related (periods_in tasks) starts others →
      WorstResponse tasks starts levels q response → WorstResponse tasks others levels q response

-- how many requests R ticks can bring: R / period, rounded up
abbrev pub rounds_in : ℕ → ℕ → ℕ
rounds_in R period = (R + (period - 1)) / period

-- the work that R ticks can bring of a task and of those above it, if all those above start at once
abbrev pub work_in : List Figures → (ℕ → ℕ) → ℕ → ℕ → ℕ
work_in tasks levels q R =
    (task_at tasks q).work
    + sum_below (λ p. cond (nat_lt (levels p) (levels q)) (rounds_in R (task_at tasks p).period * (task_at tasks p).work) 0) (length tasks)

-- If the work of R ticks is R, and R is at most its deadline, a task is never late, whatever the starts.
abbrev pub WorstStarts : List Figures → Type 0
WorstStarts tasks =
    (levels : ℕ → ℕ) (q R : ℕ) → q < length tasks → Alone tasks levels q → work_in tasks levels q R ≡ R →
    R ≤ (task_at tasks q).deadline → (starts : ℕ → ℕ) → NeverLate tasks starts levels q
