-- The tasks that bear on a judged one: it and those above it.
use Rattle.std.specs.Prelude.{◌≡◌, ℕ, ◌-◌, ◌<◌, ◌≤◌, Bool, true, List, length, Some, None, Option, ◌≢◌}
use Rattle.periods.specs.Divisors.{Divides}
use Rattle.periods.specs.Multiples.{longest_period, longest_common_period}
use Rattle.tasks.specs.declared.figures.Figures.{Figures}
use Rattle.tasks.specs.declared.judged.Judged.{Judged}
use Rattle.tasks.specs.declared.task.TimedTask.{TimedTask}
use Rattle.tasks.specs.Cases.{tasks_of, starts_of}
use Rattle.tasks.specs.Places.{has}
use Rattle.timeline.specs.Processor.{Demands}
use Rattle.timeline.specs.Timeline.{task_at, below_those}
use Rattle.timeline.specs.Laws.{through}
use Rattle.runner.specs.declared.processor.Processor.{Processor}
use Rattle.runner.specs.Processor.{count_of}
use Rattle.runner.specs.Running.{Stands}
use Rattle.lateness.specs.Served.{ServedAs}
use Rattle.lateness.specs.declared.members.Members.{Members}

abbrev pub tasks_in : Members → List Figures
tasks_in m = tasks_of m.judged.case.now

abbrev pub starts_in : Members → ℕ → ℕ
starts_in m = starts_of m.judged.case.now

abbrev pub levels_in : Members → ℕ → ℕ
levels_in m = below_those m.judged.place (has m.judged.above.now)

abbrev pub is_member : Members → ℕ → Bool
is_member m = through (levels_in m) (levels_in m m.judged.place)

-- the members of a judged place that holds a task
abbrev pub MembersOf : Judged → Option Members → Type 0
MembersOf judged (Some m) = m.judged ≡ judged
MembersOf judged None = length (tasks_of judged.case.now) ≤ judged.place

-- the member at a place and its start, or none where no member stands
abbrev pub MemberAt : Members → ℕ → Option TimedTask → Type 0
MemberAt m place (Some member) =
    (place < length (tasks_in m)) × (is_member m place ≡ true) × (task_at (tasks_in m) place ≡ member.task.figures) × (starts_in m place ≡ member.start)
MemberAt m place None = place < length (tasks_in m) → is_member m place ≢ true

-- P is a common multiple of the members' periods, and no longer than a case's may be
pub record CommonPeriod (m : Members) (P : ℕ) : Type 0 where
  pub positive : 0 < P
  pub short : P ≤ longest_common_period
  pub common : (q : ℕ) → q < length (tasks_in m) → is_member m q ≡ true → Divides (task_at (tasks_in m) q).period P

-- no member starts after a tick, which is at most a period
pub record StartsBy (m : Members) (latest : ℕ) : Type 0 where
  pub short : latest ≤ longest_period
  pub started : (q : ℕ) → q < length (tasks_in m) → is_member m q ≡ true → starts_in m q ≤ latest

-- the processor has not run yet, and on its lowest level the judged task is served as below those above it
pub record Hosts (m : Members) (p : Processor) : Type 0 where
  pub start : p.tick ≡ 0
  pub some : 0 < count_of p
  pub D : Demands
  pub stands : Stands D p
  pub served : ServedAs (tasks_in m) (starts_in m) (levels_in m) m.judged.place D (count_of p - 1)
