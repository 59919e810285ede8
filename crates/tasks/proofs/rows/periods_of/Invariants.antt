use Rattle.std.proofs.Common.{◌≡◌, map, take, drop}
use Rattle.periods.specs.Rows.{periods_of, not_taken_after, first_not_taken}
use Rattle.tasks.specs.Loads.{periods_in}
use Rattle.tasks.proofs.rows.periods_of.Given as goal

-- the periods of the rows passed are held, and those to come decide
abbrev pub invariant-loop-row : goal.invariant-loop-row
invariant-loop-row g l = record {
  held : periods_of l.periods ≡ periods_in (map g.R.HasFigures.has (take l.row-index l.rows));
  rest : not_taken_after (periods_of l.periods) (periods_in (map g.R.HasFigures.has (drop l.row-index l.rows)))
      ≡ first_not_taken (periods_in (map g.R.HasFigures.has l.rows));
}
