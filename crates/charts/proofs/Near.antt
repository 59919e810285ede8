-- How far the horizon of a sheet is.
use Rattle.std.proofs.Common.{◌≡◌, ℕ, ◌<◌, ◌≤◌, max, List, [], ◌∷◌, map, unwrap_or, refl, arith}
use Rattle.std.specs.List.{fold, reduce, AllByRecursion as All}
use Rattle.periods.specs.Multiples.{longest_period}
use Rattle.tasks.specs.Figures.{Fair}
use Rattle.sheets.specs.Checks.{Sound}
use Rattle.sheets.specs.declared.row.SheetRow.{SheetRow}
use Rattle.sheets.proofs.Held.{fair_rows, timely_rows}
use Rattle.charts.specs.Plans.{latest_start}

latest_short :
    (rows : List SheetRow) → All (λ row. Fair row.figures) rows → All (λ row. row.start < row.figures.period) rows →
    latest_start rows ≤ longest_period
latest_short [] fair timely = omega arith
latest_short (row ∷ rows) fair timely =
    let ih = latest_short rows fair.1 timely.1 in let f = fair.0 in let t = timely.0 in omega arith

pub latest_near : (rows : List SheetRow) → Sound rows → latest_start rows ≤ longest_period
latest_near rows sound = latest_short rows (fair_rows rows sound) (timely_rows rows sound)

gathered : (rows : List SheetRow) (latest : ℕ) → fold max latest (map (λ row. row.start) rows) ≡ max latest (latest_start rows)
gathered [] latest = omega arith
gathered (row ∷ rows) latest = let ih = gathered rows (max latest row.start) in omega arith

-- the latest start is the greatest of the starts, and 0 where there are none
pub latest_of : (rows : List SheetRow) → unwrap_or (reduce max (map (λ row. row.start) rows)) 0 ≡ latest_start rows
latest_of [] = refl
latest_of (row ∷ rows) = gathered rows row.start
