use Rattle.charts.proofs.Ordered.{one_order}
use Rattle.charts.proofs.inspect.Goals as goal

pub returns-in_err-sheet-clause-one : goal.returns-in_err-sheet-clause-one
returns-in_err-sheet-clause-one c = one_order _
