-- The task at a judged place of a case, running below the places above it.
use Rattle.std.specs.Prelude.{ℕ, ◌<◌, ◌≤◌, ◌⊎◌, length, Some, None, Option}
use Rattle.tasks.specs.declared.case.Case.{Case}
use Rattle.tasks.specs.declared.places.Places.{Places}
use Rattle.tasks.specs.Cases.{tasks_of, starts_of}
use Rattle.tasks.specs.Places.{has}
use Rattle.timeline.specs.Timeline.{Late, InTimeBelow, WorstResponse, below_those}
use Rattle.lateness.specs.declared.members.Members.{Members}
use Rattle.lateness.specs.Members.{tasks_in, starts_in, levels_in}

-- some request of the judged task is late
abbrev pub LateBelow : Case → ℕ → Places → Type 0
LateBelow case judged above = (k : ℕ) × Late (tasks_of case) (starts_of case) (below_those judged (has above)) judged k

-- none is
abbrev pub NeverLateBelow : Case → ℕ → Places → Type 0
NeverLateBelow case judged above = InTimeBelow (tasks_of case) (starts_of case) judged (has above)

-- the worst response of a task that is never late; none for one that is late, and where there is no task
abbrev pub Responds : Case → ℕ → Places → Option ℕ → Type 0
Responds case judged above (Some response) =
    (judged < length (tasks_of case)) × NeverLateBelow case judged above
    × WorstResponse (tasks_of case) (starts_of case) (below_those judged (has above)) judged response
Responds case judged above None = (length (tasks_of case) ≤ judged) ⊎ LateBelow case judged above

-- the same of the judged task of some members: none only if it is late
abbrev pub RespondsIn : Members → Option ℕ → Type 0
RespondsIn m (Some response) =
    NeverLateBelow m.judged.case.now m.judged.place m.judged.above.now
    × WorstResponse (tasks_in m) (starts_in m) (levels_in m) m.judged.place response
RespondsIn m None = LateBelow m.judged.case.now m.judged.place m.judged.above.now
