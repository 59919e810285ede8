-- What stands on each level of a processor.
use Rattle.std.specs.Prelude.{ℕ, List, length, slice_index_or}
use Rattle.short_list.specs.Items.{items_of}
use Rattle.runner.specs.declared.level.Level.{Level}
use Rattle.runner.specs.declared.processor.Processor.{Processor}

-- the levels that have a task, the highest priority first
abbrev pub levels_of : Processor → List Level
levels_of p = items_of p.levels

-- how many they are
abbrev pub count_of : Processor → ℕ
count_of p = length (levels_of p)

-- a level without a task
abbrev pub no_task : Level
no_task = record { work = 0; period = 0; next = 0; left = 0 }

-- a level's task; one without a task has no work, and nothing left
abbrev pub level_on : Processor → ℕ → Level
level_on p level = slice_index_or (levels_of p) level no_task

abbrev pub work_on : Processor → ℕ → ℕ
work_on p level = (level_on p level).work

abbrev pub period_on : Processor → ℕ → ℕ
period_on p level = (level_on p level).period

-- the tick of a level's next request
abbrev pub next_on : Processor → ℕ → ℕ
next_on p level = (level_on p level).next

-- the units that a level has left of earlier requests
abbrev pub left_on : Processor → ℕ → ℕ
left_on p level = (level_on p level).left
