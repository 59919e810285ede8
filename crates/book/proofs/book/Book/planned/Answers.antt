use Rattle.book.proofs.Found.{place_held}
use Rattle.book.proofs.book.Book.planned.Goals as goal

pub task-requires : goal.task-requires
task-requires g c =
    place_held c.args.id c.in_ok-place.place _ c.in_ok-place.ensures c.args.self.now c.table.ensures
    c.in_ok-standing.field-0.now c.in_ok-standing.ensures.1
