-- The rows of a case as tasks by place.
use Rattle.std.proofs.Common.{◌≡◌, ℕ, ◌<◌, List, length, get_or, sym, ap, subst, arith}
use lib.ListN.{length-map}
use Rattle.std.specs.List.{AllByRecursion as All}
use Rattle.std.proofs.ByRecursion.{All-get_or}
use Rattle.std.proofs.lemmas.List.{get_or-map}
use Rattle.tasks.specs.declared.figures.Figures.{Figures}
use Rattle.tasks.specs.declared.rows.Timed.{Timed}
use Rattle.tasks.specs.Figures.{Fair}
use Rattle.tasks.specs.Timed.{figures_given}
use Rattle.timeline.specs.Laws.{AllFair}
use Rattle.timeline.specs.Timeline.{task_at}

-- what stands past the end
abbrev pub blank : Timed
blank = record { figures = record { work = 0; period = 0; deadline = 0 }; start = 0 }

pub task_of_row : (rows : List Timed) (q : ℕ) → q < length rows → task_at (figures_given rows) q ≡ (get_or rows q blank).figures
task_of_row rows q inside = get_or-map (λ row. row.figures) rows q blank _ inside

pub length_rows : (rows : List Timed) (tasks : List Figures) → figures_given rows ≡ tasks → length rows ≡ length tasks
length_rows rows tasks is = omega (arith, length-map rows (λ row. row.figures), ap length is)

pub tasks_fair : (rows : List Timed) → All (λ row. Fair row.figures) rows → AllFair (figures_given rows)
tasks_fair rows fair q l =
    let inside : q < length rows = omega (arith, length-map rows (λ row. row.figures)) in
    subst Fair (sym (task_of_row rows q inside)) (All-get_or (λ row. Fair row.figures) rows q blank inside fair)
