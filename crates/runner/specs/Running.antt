-- How a processor stands on the endless timeline of some demands, and what it does when it advances.
use Rattle.std.specs.Prelude.{◌≡◌, ℕ, ◌+◌, ◌<◌, ◌≤◌, min, max, true, cond, ◌⊎◌, Some, None, Option, ◌==◌}
use Rattle.tasks.specs.declared.figures.Figures.{Figures}
use Rattle.timeline.specs.Processor.{Demands, owing, runs, Idle}
use Rattle.timeline.specs.Requests.{requested}
use Rattle.runner.specs.declared.processor.Processor.{Processor}
use Rattle.runner.specs.declared.span.Span.{Span}
use Rattle.runner.specs.Levels.{last_tick}
use Rattle.runner.specs.Processor.{count_of, work_on, period_on, next_on, left_on}

-- The processor stands at its tick of the timeline of these demands: it knows what each level owes, and from this
-- tick on each level demands what its task requests, the next time at `next`.
pub record Stands (D : Demands) (p : Processor) : Type 0 where
  pub owes : (level : ℕ) → owing D p.tick level ≡ left_on p level
  pub coming :
      (level tick : ℕ) → p.tick ≤ tick →
      D level tick ≡ requested (work_on p level) (period_on p level) (next_on p level) tick

-- no level demands anything
abbrev pub nothing : Demands
nothing level tick = 0

-- these demands, and on one level another
abbrev pub with_level : Demands → ℕ → (ℕ → ℕ) → Demands
with_level D level demand l tick = cond (l == level) (demand tick) (D l tick)

-- one more task, on the level below those that there are
pub record Added (p : Processor) (figures : Figures) (start : ℕ) (q : Processor) : Type 0 where
  pub tick : q.tick ≡ p.tick
  pub count : count_of q ≡ count_of p + 1
  pub stands :
      (D : Demands) → Stands D p → Stands (with_level D (count_of p) (requested figures.work figures.period start)) q

-- who runs in a tick: a level, or nobody
abbrev pub RunsAt : Demands → Option ℕ → ℕ → Type 0
RunsAt D (Some level) tick = runs D tick level ≡ true
RunsAt D None tick = Idle D tick

-- the same tasks on the same levels
pub record SameTasks (p q : Processor) : Type 0 where
  pub count : count_of q ≡ count_of p
  pub work : (level : ℕ) → work_on q level ≡ work_on p level
  pub period : (level : ℕ) → period_on q level ≡ period_on p level

-- the work of the level that ran has ended
abbrev pub WorkEnded : Option ℕ → Processor → Type 0
WorkEnded (Some level) q = left_on q level ≡ 0
WorkEnded None q = ⊥

-- a request falls at the tick at which the processor stands
abbrev pub RequestFalls : Processor → Type 0
RequestFalls q = (level : ℕ) × (level < count_of q) × (next_on q level ≡ q.tick)

-- The processor ran from p to q, and the span tells who ran. It ends no sooner than at an event.
pub record Ran (p : Processor) (end : ℕ) (s : Span) (q : Processor) : Type 0 where
  pub from : s.from ≡ p.tick
  pub some : 0 < s.length
  pub to : q.tick ≡ s.from + s.length
  pub within : q.tick ≤ end
  pub tasks : SameTasks p q
  pub known : (level : ℕ) → s.runs ≡ Some level → level < count_of p
  pub event : (q.tick ≡ end) ⊎ (RequestFalls q ⊎ WorkEnded s.runs q)
  pub stands : (D : Demands) → Stands D p → Stands D q
  pub runs : (D : Demands) → Stands D p → (tick : ℕ) → s.from ≤ tick → tick < q.tick → RunsAt D s.runs tick

-- An advance up to a tick. There is none exactly if the processor stands there or beyond, or at the last tick.
abbrev pub Advanced : Processor → ℕ → Option Span → Processor → Type 0
Advanced p until None q = (min until last_tick ≤ p.tick) × (q ≡ p)
Advanced p until (Some s) q = Ran p (min until last_tick) s q

-- The processor ran up to a tick, or to the last one; where it stood there or beyond, it stays.
pub record RanTo (p : Processor) (until : ℕ) (q : Processor) : Type 0 where
  pub tick : q.tick ≡ max p.tick (min until last_tick)
  pub tasks : SameTasks p q
  pub stands : (D : Demands) → Stands D p → Stands D q
  pub stays : min until last_tick ≤ p.tick → q ≡ p

-- Who runs in a tick, as told by a processor on its way to it. There is no answer for a tick that is over or too late.
abbrev pub ToldAt : Processor → ℕ → Option (Option ℕ) → Type 0
ToldAt p tick None = (tick < p.tick) ⊎ (last_tick ≤ tick)
ToldAt p tick (Some runs) = (p.tick ≤ tick) × (tick < last_tick) × ((D : Demands) → Stands D p → RunsAt D runs tick)
