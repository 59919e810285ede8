-- A task on a level, and what one tick makes of it.
use Rattle.std.specs.Prelude.{ℕ, ◌+◌, ◌-◌, ◌≤◌, cond, ◌==◌}
use Rattle.periods.specs.Multiples.{longest_period}
use Rattle.tasks.specs.declared.figures.Figures.{Figures}
use Rattle.runner.specs.declared.level.Level.{Level}

-- the tick at which a processor stops
abbrev pub last_tick : ℕ
last_tick = 1000000

-- the figures of a task
abbrev pub Rated : Level → Type 0
Rated level = (1 ≤ level.work) × (level.work ≤ level.period) × (level.period ≤ longest_period)

-- The next request of a level is still to come. A request brings no more units than ticks pass until the one after it,
-- so the units left never pass the tick of the next one.
abbrev pub Awaited : ℕ → Level → Type 0
Awaited tick level = (tick ≤ level.next) × (level.next ≤ last_tick + longest_period) × (level.left ≤ level.next)

-- what each level with a task keeps to at a tick
abbrev pub Kept : ℕ → Level → Type 0
Kept tick level = Rated level × Awaited tick level

-- a request that falls at this tick brings its units, and the next one falls a period later
abbrev pub requested_at : ℕ → Level → Level
requested_at tick level =
    cond (level.next == tick) (record level { next = level.next + level.period; left = level.left + level.work }) level

-- so many of its units are spent
abbrev pub units_spent : ℕ → Level → Level
units_spent units level = record level { left = level.left - units }

-- a task on a level of its own, before its start
abbrev pub starting : Figures → ℕ → Level
starting figures start = record { work = figures.work; period = figures.period; next = start; left = 0 }
