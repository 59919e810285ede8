-- Levels by place, and the processor that serves the tasks of a case in their order.
use Rattle.std.specs.Prelude.{◌≡◌, ℕ, suc, ◌<◌, ◌≤◌, true, ◌⊎◌, List, length, Some, None, Option, slice_index}
use Rattle.tasks.specs.declared.case.Case.{Case}
use Rattle.tasks.specs.Cases.{tasks_of, starts_of}
use Rattle.timeline.specs.Processor.{Demands, runs, Idle}
use Rattle.timeline.specs.Timeline.{demands}
use Rattle.runner.specs.declared.processor.Processor.{Processor}
use Rattle.runner.specs.Levels.{last_tick}
use Rattle.runner.specs.Running.{Stands}

-- the level of a place
abbrev pub level_of : List ℕ → ℕ → ℕ
level_of levels q = slice_index levels q

-- each level lies from 1 to their number
abbrev pub Within : List ℕ → Type 0
Within levels = (q : ℕ) → q < length levels → (1 ≤ level_of levels q) × (level_of levels q ≤ length levels)

-- a place has this level, and no other place has it
pub record Only (levels : List ℕ) (level place : ℕ) : Type 0 where
  pub held : place < length levels
  pub has : level_of levels place ≡ level
  pub alone : (q : ℕ) → q < length levels → level_of levels q ≡ level → q ≡ place

-- each of the levels from 1 to the number of tasks is that of one place of the case
pub record IsOrder (case : Case) (levels : List ℕ) : Type 0 where
  pub all : length levels ≡ length (tasks_of case)
  pub within : Within levels
  pub each : (level : ℕ) → 1 ≤ level → level ≤ length levels → (place : ℕ) × Only levels level place

-- the only place of a level, if there is one
abbrev pub OnlyPlace : List ℕ → ℕ → Option ℕ → Type 0
OnlyPlace levels level (Some place) = Only levels level place
OnlyPlace levels level None = (place : ℕ) → Only levels level place → ⊥

-- the demands of the tasks of a case on these levels
abbrev pub demands_in : Case → List ℕ → Demands
demands_in case levels = demands (tasks_of case) (starts_of case) (level_of levels)

-- a processor that serves level 1 on its level 0, and so on; none where the levels are no order
abbrev pub OrderedOn : Case → List ℕ → Option Processor → Type 0
OrderedOn case levels (Some p) =
    IsOrder case levels × (p.tick ≡ 0) × Stands (λ level. demands_in case levels (suc level)) p
OrderedOn case levels None = IsOrder case levels → ⊥

-- who runs in a tick: a place, or none; no answer where the levels are no order, and from the last tick on
abbrev pub RunsIn : Case → List ℕ → ℕ → Option (Option ℕ) → Type 0
RunsIn case levels tick (Some (Some place)) =
    IsOrder case levels × (tick < last_tick) × (place < length (tasks_of case)) × (runs (demands_in case levels) tick (level_of levels place) ≡ true)
RunsIn case levels tick (Some None) = IsOrder case levels × (tick < last_tick) × Idle (demands_in case levels) tick
RunsIn case levels tick None = (IsOrder case levels → ⊥) ⊎ (last_tick ≤ tick)
