use Rattle.std.proofs.Common.{refl}
use Rattle.std.proofs.lemmas.Result.{err_from_is_err_and}
use Rattle.book.proofs.book.Book.change.Goals as goal

pub returns-in_err-change : goal.returns-in_err-change
returns-in_err-change g c =
    let exit = err_from_is_err_and c.from_residual.result c.from_residual.ensures.1 in
    rw (exit.1, exit.2) (
      c.table-table.result,
      c.change.new.arg2,
      c.table-table.ensures,
      record { shown = _; shows = refl; left = _; met = c.in_err-change.ensures; leaves = refl },
      refl,
    )

pub returns : goal.returns
returns g c = (
  c.table-table.result,
  c.change.new.arg2,
  c.table-table.ensures,
  record { shown = _; shows = refl; left = _; met = c.in_ok-change.ensures; leaves = refl },
  record { judges = refl; tasks = refl; unplanned = refl },
)
