use Rattle.std.proofs.Common.{ℕ, ◌<◌}
use Rattle.periods.specs.Listed.{choice_of, start_of}
use Rattle.tasks.specs.Loads.{periods_in}
use Rattle.tasks.specs.Tables.{figures_in}
use Rattle.planner.specs.Orders.{NonePasses}
use Rattle.planner.proofs.choosing.search_among.Given as goal

-- no order passes with the choices of the smaller ranks
abbrev pub invariant-loop-rank : goal.invariant-loop-rank
invariant-loop-rank g l =
    (earlier : ℕ) → earlier < l.rank →
    NonePasses (g.J.Judge.meaning l.judge) (figures_in l.table) (start_of (choice_of (periods_in (figures_in l.table)) earlier))
