use Rattle.std.proofs.Common.{◌∙◌, arith}
use Rattle.sheets.proofs.Bytes.{write_refused, write_done}
use Rattle.sheets.proofs.sheet.Sheet.write.Goals as goal

pub returns-then-out-length : goal.returns-then-out-length
returns-then-out-length c =
    let given = c.rows-rows.ensures in
    write_refused _ _ given.value given.sound c.args.out.now _ c.sheet_length-length.ensures c.if-out-length.true

pub returns : goal.returns
returns c =
    let given = c.rows-rows.ensures in
    write_done _ _ given.value given.sound c.args.out.now _ c.sheet_length-length.ensures
    c.copy_from_slice.new.self c.write_entries.new.out c.write_entries-2.new.out _ _ c.if-out-length.false
    (c.copy_from_slice.ensures.after ∙ c.header.ensures) c.write_entries.ensures c.write_entries-2.ensures (omega arith) (omega arith)
