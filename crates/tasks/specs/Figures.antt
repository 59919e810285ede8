-- The figures of a task, and what can be wrong with them.
use Rattle.std.specs.Prelude.{◌≤◌, Bool, ◌&&◌, List, [], ◌∷◌, Option, ◌==◌, nat_le, nat_lt}
use Rattle.std.specs.List.{find}
use Rattle.refusals.specs.declared.TaskFault.{TaskFault}
use Rattle.refusals.specs.declared.TaskFault.TheVariants.{NoWork, LongPeriod, LateDeadline, LongWork}
use Rattle.periods.specs.Multiples.{longest_period}
use Rattle.tasks.specs.declared.figures.Figures.{Figures}

-- some work, at most the deadline, which is at most the period, which is at most the longest one
abbrev pub Fair : Figures → Type 0
Fair f = (1 ≤ f.work) × (f.work ≤ f.deadline) × (f.deadline ≤ f.period) × (f.period ≤ longest_period)

-- the same as a test
abbrev pub is_fair : Figures → Bool
is_fair f = nat_le 1 f.work && (nat_le f.work f.deadline && (nat_le f.deadline f.period && nat_le f.period longest_period))

-- the figures have this fault
abbrev pub breaks : Figures → TaskFault → Bool
breaks f NoWork = f.work == 0
breaks f LongPeriod = nat_lt longest_period f.period
breaks f LateDeadline = nat_lt f.period f.deadline
breaks f LongWork = nat_lt f.deadline f.work

-- the faults in the order of their numbers
abbrev pub faults : List TaskFault
faults = NoWork ∷ LongPeriod ∷ LateDeadline ∷ LongWork ∷ []

-- the fault that is told: the first one there
unfoldable pub first_fault : Figures → Option TaskFault
first_fault f = find (breaks f) faults
