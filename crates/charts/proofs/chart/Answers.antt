use Rattle.charts.proofs.Windows.{one_chart}
use Rattle.charts.proofs.chart.Goals as goal

pub returns-then-window-clause-one : goal.returns-then-window-clause-one
returns-then-window-clause-one c = one_chart _ _ _

pub returns-clause-one : goal.returns-clause-one
returns-clause-one c = one_chart _ _ _
