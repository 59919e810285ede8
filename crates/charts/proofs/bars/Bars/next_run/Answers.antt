use Rattle.std.proofs.Common.{refl}
use Rattle.charts.proofs.Windows.{next_run}
use Rattle.charts.proofs.bars.Bars.next_run.Goals as goal

pub returns : goal.returns
returns c = next_run c.args.self.now _ _ c.advance.ensures refl
