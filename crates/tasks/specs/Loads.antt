-- The work that tasks ask for.
use Rattle.std.specs.Prelude.{ℕ, ◌+◌, ◌*◌, ◌/◌, List, [], ◌∷◌, map}
use Rattle.periods.specs.Multiples.{common_period}
use Rattle.tasks.specs.declared.figures.Figures.{Figures}

-- the periods of tasks, in their places
abbrev pub periods_in : List Figures → List ℕ
periods_in tasks = map (λ task. task.period) tasks

-- the work of the requests of some ticks, a whole number of each period
abbrev pub load_in : ℕ → List Figures → ℕ
load_in ticks [] = 0
load_in ticks (task ∷ tasks) = task.work * (ticks / task.period) + load_in ticks tasks

-- the work of a common period
abbrev pub load : List Figures → ℕ
load tasks = load_in (common_period (periods_in tasks)) tasks
