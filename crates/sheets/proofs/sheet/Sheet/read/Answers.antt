use Rattle.std.proofs.Common.{◌<◌, arith}
use Rattle.std.proofs.ByRecursion.{All-from_get_or}
use Rattle.std.proofs.lemmas.Result.{err_from_is_err_and}
use Rattle.sheets.proofs.Bytes.{read_no_header, read_rows, rows_told}
use Rattle.sheets.proofs.sheet.Sheet.read.Goals as goal

pub returns-in_err-count : goal.returns-in_err-count
returns-in_err-count c =
    let exit = err_from_is_err_and c.from_residual.result c.from_residual.ensures.1 in
    rw (exit.1, exit.2) (read_no_header c.args.bytes.now _ c.in_err-count.ensures)

pub returns : goal.returns
returns c =
    let bytes = c.args.bytes.now in
    let header = c.in_ok-count.ensures in
    let parts = c.split_at.ensures in
    read_rows bytes _ c.checked.result (All-from_get_or (λ byte. byte < 256) bytes 0 (λ i inside. let fits = c.type_inv.bytes i in omega arith))
    header.right
    (rows_told bytes _ _ _ header parts.front parts.back _ c.read_rows.ensures)
    c.checked.ensures
