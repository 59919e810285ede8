use Rattle.std.proofs.Common.{rules}
use Rattle.timeline.proofs.Laws.{decides_law, overloaded_law, independent_law, less_law, worst_starts_law}
use Rattle.lateness.proofs.Ruled.{ruled}
use Rattle.lateness.proofs.below.late_below.Goals as goal

pub returns : goal.returns
returns c =
    record {
      value = ruled c.args.judged c.of.result _ c.of.ensures (search rules);
      decides = decides_law;
      overloaded = overloaded_law;
      independent = independent_law;
      less = less_law;
      worst_starts = worst_starts_law;
    }
