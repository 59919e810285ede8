-- A case, and what forming one answers.
use Rattle.std.specs.Prelude.{◌≡◌, ℕ, ◌<◌, ◌≤◌, List, map, length, Some, None, Option, Result, slice_index, slice_index_or}
use Rattle.refusals.specs.Answers.{AnswersWith}
use Rattle.refusals.specs.declared.Refusal.{Refusal}
use Rattle.short_list.specs.Items.{items_of}
use Rattle.tasks.specs.declared.case.Case.{Case}
use Rattle.tasks.specs.declared.figures.Figures.{Figures}
use Rattle.tasks.specs.declared.rows.Timed.{Timed}
use Rattle.tasks.specs.declared.task.TimedTask.{TimedTask}
use Rattle.tasks.specs.Timed.{figures_given, case_refusal}

-- the tasks of a case, in their places
abbrev pub timed_of : Case → List Timed
timed_of case = items_of case.rows

-- a case of these rows, or why there is none
abbrev pub Formed : List Timed → Result Case Refusal → Type 0
Formed rows r = AnswersWith (case_refusal rows) (λ case. timed_of case ≡ rows) r

-- the tasks and the starts of a case, by place, counted from 0
abbrev pub tasks_of : Case → List Figures
tasks_of case = figures_given (timed_of case)

abbrev pub starts_of : Case → ℕ → ℕ
starts_of case q = slice_index (map (λ row. row.start) (timed_of case)) q

-- the task at a place and its start, or none where there is no task
abbrev pub TaskAt : Case → ℕ → Option TimedTask → Type 0
TaskAt case place (Some timed) =
    (place < length (tasks_of case)) × ((none : Figures) → slice_index_or (tasks_of case) place none ≡ timed.task.figures)
    × (starts_of case place ≡ timed.start)
TaskAt case place None = length (tasks_of case) ≤ place
