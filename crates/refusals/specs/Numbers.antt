-- The number of every refusal, defined here and nowhere else.
use Rattle.std.specs.Prelude.{ℕ}
use Rattle.refusals.specs.declared.TaskFault.{TaskFault}
use Rattle.refusals.specs.declared.TaskFault.TheVariants.{NoWork, LongPeriod, LateDeadline, LongWork}
use Rattle.refusals.specs.declared.Refusal.{Refusal}
use Rattle.refusals.specs.declared.Refusal.TheVariants.{ZeroId, StandingId, UnknownId, Figures, TooManyTasks, LargeMargin, NoTask, LongCommonPeriod, TooManyChoices, Overload, NoPlan, NoStandingPlan, ListTooShort, WrongWindow, LateStart}

-- a task needs work; its period is at most 2,000; its deadline at most its period; its work at most its deadline
abbrev pub fault_number : TaskFault → ℕ
fault_number NoWork = 4
fault_number LongPeriod = 5
fault_number LateDeadline = 6
fault_number LongWork = 7

abbrev pub refusal_number : Refusal → ℕ
refusal_number ZeroId = 1
refusal_number StandingId = 2
refusal_number UnknownId = 3
refusal_number (Figures fault) = fault_number fault
refusal_number TooManyTasks = 8
refusal_number LargeMargin = 10
refusal_number NoTask = 20
refusal_number LongCommonPeriod = 21
refusal_number TooManyChoices = 22
refusal_number Overload = 23
refusal_number NoPlan = 24
refusal_number NoStandingPlan = 30
refusal_number ListTooShort = 31
refusal_number WrongWindow = 32
refusal_number LateStart = 45
