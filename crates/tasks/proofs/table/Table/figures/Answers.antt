use Rattle.tasks.proofs.Found.{figures_of_here}
use Rattle.tasks.proofs.table.Table.figures.Goals as goal

pub returns : goal.returns
returns c =
    let found = c.in_ok-at.ensures in
    (found.0, rw c.deref.ensures.0 (figures_of_here _ _ _ found.1))
