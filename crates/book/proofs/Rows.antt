-- Rows of a sheet, and of a table with starts and levels.
use Rattle.std.proofs.Common.{◌≡◌, ℕ, zero, suc, ◌<◌, ◌≤◌, List, [], ◌∷◌, map, length, get_or, take, refl, ap, arith}
use Rattle.std.specs.List.{AllByRecursion as All}
use Rattle.std.proofs.lemmas.List.{get_or-map}
use Rattle.tasks.specs.Figures.{Fair}
use Rattle.tasks.specs.declared.rows.Row.{Row}
use Rattle.std.specs.Prelude.{slice_index}
use Rattle.short_list.proofs.Collected.{paired}
use Rattle.planner.specs.declared.plan.Assignment.{Assignment}
use Rattle.planner.specs.Plans.{timed}
use Rattle.charts.specs.Plans.{tasks_of, start_of, level_of}
use Rattle.sheets.specs.Checks.{tasks_in, timed_in}
use Rattle.sheets.specs.declared.row.SheetRow.{SheetRow}
use Rattle.planner.proofs.Rows.{figures_at}
use Rattle.book.specs.Plans.{starts_in, with_plan}

pub length-with_plan : (rows : List Row) (starts levels : ℕ → ℕ) → length (with_plan rows starts levels) ≡ length rows
length-with_plan [] starts levels = refl
length-with_plan (row ∷ rows) starts levels =
    ap suc (length-with_plan rows (λ place. starts (suc place)) (λ place. levels (suc place)))

pub tasks_in-with_plan : (rows : List Row) (starts levels : ℕ → ℕ) → tasks_in (with_plan rows starts levels) ≡ rows
tasks_in-with_plan [] starts levels = refl
tasks_in-with_plan (row ∷ rows) starts levels =
    ap (λ all. row ∷ all) (tasks_in-with_plan rows (λ place. starts (suc place)) (λ place. levels (suc place)))

pub timed_in-with_plan : (rows : List Row) (starts levels : ℕ → ℕ) → timed_in (with_plan rows starts levels) ≡ timed rows starts
timed_in-with_plan [] starts levels = refl
timed_in-with_plan (row ∷ rows) starts levels =
    ap (λ all. record { figures = row.figures; start = starts 0 } ∷ all)
    (timed_in-with_plan rows (λ place. starts (suc place)) (λ place. levels (suc place)))

pub tasks_of-with_plan : (rows : List Row) (starts levels : ℕ → ℕ) → tasks_of (with_plan rows starts levels) ≡ figures_at rows
tasks_of-with_plan [] starts levels = refl
tasks_of-with_plan (row ∷ rows) starts levels =
    ap (λ all. row.figures ∷ all) (tasks_of-with_plan rows (λ place. starts (suc place)) (λ place. levels (suc place)))

pub level_of-with_plan :
    (rows : List Row) (starts levels : ℕ → ℕ) (q : ℕ) → q < length rows → level_of (with_plan rows starts levels) q ≡ levels q
level_of-with_plan [] starts levels q inside = absurd (omega arith)
level_of-with_plan (row ∷ rows) starts levels zero inside = refl
level_of-with_plan (row ∷ rows) starts levels (suc q) inside =
    level_of-with_plan rows (λ place. starts (suc place)) (λ place. levels (suc place)) q (omega arith)

pub starts_in-with_plan :
    (rows : List Row) (starts : List ℕ) (levels : ℕ → ℕ) → length rows ≤ length starts →
    starts_in (with_plan rows (λ place. get_or starts place 0) levels) ≡ take (length rows) starts
starts_in-with_plan [] starts levels enough = refl
starts_in-with_plan (row ∷ rows) [] levels enough = absurd (omega arith)
starts_in-with_plan (row ∷ rows) (start ∷ starts) levels enough =
    ap (λ all. start ∷ all) (starts_in-with_plan rows starts (λ place. levels (suc place)) (omega arith))

-- a sheet's tasks with their starts have its figures and its starts
pub figures_of_lem : (rows : List SheetRow) → map (λ row. row.figures) (tasks_in rows) ≡ tasks_of rows
figures_of_lem [] = refl
figures_of_lem (row ∷ rows) = ap (λ all. row.figures ∷ all) (figures_of_lem rows)

pub starts_of_lem : (rows : List SheetRow) → map (λ row. row.start) (timed_in rows) ≡ starts_in rows
starts_of_lem [] = refl
starts_of_lem (row ∷ rows) = ap (λ all. row.start ∷ all) (starts_of_lem rows)

-- what an index past the end reads
abbrev pub blank : SheetRow
blank = record { id = 0; figures = record { work = 0; period = 0; deadline = 0 }; start = 0; level = 0 }

-- fair tasks, with their starts or without
pub fair_tasks : (rows : List SheetRow) → All (λ row. Fair row.figures) (timed_in rows) → All (λ row. Fair row.figures) (tasks_in rows)
fair_tasks [] fair = tt
fair_tasks (row ∷ rows) fair = (fair.0, fair_tasks rows fair.1)

pub level_at_lem : (rows : List SheetRow) (place : ℕ) → place < length rows → level_of rows place ≡ (get_or rows place blank).level
level_at_lem rows place inside = get_or-map (λ row. row.level) rows place blank 0 inside

pub start_at : (rows : List SheetRow) (place : ℕ) → place < length rows → start_of rows place ≡ (get_or rows place blank).start
start_at rows place inside = get_or-map (λ row. row.start) rows place blank 0 inside

-- rows side by side with what a plan gives them
pub planned_pairs :
    (rows : List Row) (given : List Assignment) → length rows ≤ length given →
    paired (λ row task. record { id = row.id; figures = row.figures; start = task.start; level = task.level }) rows given
    ≡ with_plan rows (slice_index (map (λ task. task.start) given)) (slice_index (map (λ task. task.level) given))
planned_pairs [] given long = refl
planned_pairs (row ∷ rows) [] long = absurd (omega arith)
planned_pairs (row ∷ rows) (task ∷ given) long =
    ap (λ rest. record { id = row.id; figures = row.figures; start = task.start; level = task.level } ∷ rest)
    (planned_pairs rows given (omega arith))
