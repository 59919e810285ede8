use Rattle.tasks.proofs.Found.{place_of_here}
use Rattle.tasks.proofs.table.Table.place.Goals as goal

pub returns : goal.returns
returns c =
    let found = c.in_ok-at.ensures in
    rw (found.0, place_of_here _ _ _ found.1)
