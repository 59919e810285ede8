use Rattle.tasks.proofs.Ordered.{rising_from_tidy, fair_from_tidy}
use Rattle.tasks.proofs.table.Table.rows.Goals as goal

pub returns-clause-rising : goal.returns-clause-rising
returns-clause-rising c = rw c.as_slice.ensures.value (rising_from_tidy 1 _ c.args.self.now.tidy)

pub returns-clause-fair : goal.returns-clause-fair
returns-clause-fair c = rw c.as_slice.ensures.value (fair_from_tidy 1 _ c.args.self.now.tidy)
