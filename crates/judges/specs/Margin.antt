-- The margin, over any judge: room for more work than the tasks have.
use Rattle.std.specs.Prelude.{◌≡◌, ℕ, ◌+◌, ◌*◌, ◌/◌, ◌<◌, ◌≤◌, Bool, true, cond, ◌||◌, List, map, length, Some, None, Option, ◌==◌}
use Rattle.std.specs.List.{range_with_len}
use Rattle.tasks.specs.declared.case.Case.{Case}
use Rattle.tasks.specs.declared.figures.Figures.{Figures}
use Rattle.tasks.specs.declared.judged.Judged.{Judged}
use Rattle.tasks.specs.Places.{has}
use Rattle.timeline.specs.Laws.{AllFair}
use Rattle.timeline.specs.Timeline.{task_at}
use Rattle.judges.specs.Meaning.{Meaning, Reckoning, tasks_of, starts_of}

abbrev pub largest_margin : ℕ
largest_margin = 100

-- a work with so many percent more, rounded up
abbrev pub stretch : ℕ → ℕ → ℕ
stretch percent work = (work * (100 + percent) + 99) / 100

-- the places whose work is stretched: the judged one and those above it
abbrev pub concerns : ℕ → (ℕ → Bool) → ℕ → Bool
concerns judged above q = q == judged || above q

-- a task with its work stretched
abbrev pub stretched_task : ℕ → Figures → Figures
stretched_task percent task = record { work = stretch percent task.work; period = task.period; deadline = task.deadline }

-- the tasks, with the work of the judged one and of those above it stretched
abbrev pub stretched : ℕ → List Figures → ℕ → (ℕ → Bool) → List Figures
stretched percent tasks judged above =
    map (λ q. cond (concerns judged above q) (stretched_task percent (task_at tasks q)) (task_at tasks q)) (range_with_len 0 (length tasks))

-- no stretched work passes its deadline
abbrev pub StretchFits : ℕ → List Figures → ℕ → (ℕ → Bool) → Type 0
StretchFits percent tasks judged above =
    (q : ℕ) → q < length tasks → concerns judged above q ≡ true → stretch percent (task_at tasks q).work ≤ (task_at tasks q).deadline

-- a margin of nothing always fits and changes nothing, so it rules as the judge below
abbrev pub NoMargin : Type 0
NoMargin =
    (tasks : List Figures) (judged : ℕ) (above : ℕ → Bool) → AllFair tasks →
    StretchFits 0 tasks judged above × (stretched 0 tasks judged above ≡ tasks)

-- the case with the stretched tasks at the same starts, if they fit
abbrev pub StretchedCase : ℕ → Judged → Option Case → Type 0
StretchedCase percent judged None = StretchFits percent (tasks_of judged.case.now) judged.place (has judged.above.now) → ⊥
StretchedCase percent judged (Some changed) =
    StretchFits percent (tasks_of judged.case.now) judged.place (has judged.above.now)
    × (tasks_of changed ≡ stretched percent (tasks_of judged.case.now) judged.place (has judged.above.now))
    × (starts_of changed ≡ starts_of judged.case.now)

-- the ruling below and its number, on the stretched tasks
abbrev pub WithMargin : ℕ → Meaning → Meaning
WithMargin percent M tasks starts judged above = StretchFits percent tasks judged above × M (stretched percent tasks judged above) starts judged above

abbrev pub ReckonsWithMargin : ℕ → Reckoning → Reckoning
ReckonsWithMargin percent N tasks starts judged above n =
    StretchFits percent tasks judged above × N (stretched percent tasks judged above) starts judged above n
