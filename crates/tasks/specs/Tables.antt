-- A table of tasks, and what its changes promise.
use Rattle.std.specs.Prelude.{◌≡◌, ℕ, cond, List, map, Some, None, Ok, Err, Option, Result, ◌==◌}
use Rattle.refusals.specs.declared.Refusal.{Refusal}
use Rattle.short_list.specs.Items.{items_of}
use Rattle.tasks.specs.declared.figures.Figures.{Figures}
use Rattle.tasks.specs.declared.rows.Row.{Row}
use Rattle.tasks.specs.declared.table.Table.{Table}
use Rattle.tasks.specs.Loads.{periods_in}
use Rattle.tasks.specs.Rows.{figures_of}

-- the rows that stand
abbrev pub rows_of : Table → List Row
rows_of table = items_of table.rows

-- the figures of the tasks, in their places
abbrev pub figures_in : Table → List Figures
figures_in table = map (λ row. row.figures) (rows_of table)

-- and their periods
abbrev pub periods_held : Table → List ℕ
periods_held table = periods_in (figures_in table)

-- a change: refused, and nothing is changed, or else done, and these rows stand
abbrev pub Updated : Option Refusal → List Row → Table → Table → Result (Unit {0}) Refusal → Type 0
Updated None next before after r = (r ≡ Ok tt) × (rows_of after ≡ next)
Updated (Some refusal) next before after r = (r ≡ Err refusal) × (after ≡ before)

-- a change that is done gives one id these figures, or none, and every other id keeps what it had
abbrev pub OnlyAt : ℕ → Option Figures → Table → Table → Result (Unit {0}) Refusal → Type 0
OnlyAt id figures before after r =
    r ≡ Ok tt →
    (other : ℕ) → figures_of other (rows_of after) ≡ cond (other == id) figures (figures_of other (rows_of before))
