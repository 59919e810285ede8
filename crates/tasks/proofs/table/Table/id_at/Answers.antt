use Rattle.std.proofs.Common.{Some, length, sym, ap, ◌∙◌, inl, inr, arith}
use Rattle.tasks.specs.Tables.{rows_of}
use Rattle.tasks.proofs.Found.{blank}
use Rattle.tasks.proofs.Ordered.{id_at_none, id_at_inside}
use Rattle.tasks.proofs.table.Table.id_at.Goals as goal

pub returns-in_err-checked_sub : goal.returns-in_err-checked_sub
returns-in_err-checked_sub c =
    c.from_residual.ensures ∙ sym (id_at_none c.args.place (rows_of c.args.self.now) (inl (omega (arith, c.in_err-checked_sub.ensures))))

pub returns-in_err-row : goal.returns-in_err-row
returns-in_err-row c =
    let past = c.in_err-row.ensures.lookup.3 in
    c.from_residual-in_err-row.ensures
    ∙ sym (id_at_none c.args.place (rows_of c.args.self.now) (inr (omega (arith, past, c.in_ok-checked_sub.ensures, ap length c.deref.ensures.0))))

pub returns : goal.returns
returns c =
    let found = c.in_ok-row.ensures.lookup.3 in
    let at = c.in_ok-checked_sub.ensures.1 in
    rw (c.deref.ensures.0, at) at (ap (λ row. Some row.id) (found.1 blank))
    ∙ sym ((id_at_inside c.args.place (rows_of c.args.self.now) blank (omega arith) (omega (arith, found.0, at, ap length c.deref.ensures.0))))
