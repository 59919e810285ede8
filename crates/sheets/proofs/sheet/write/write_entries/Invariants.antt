use Rattle.std.proofs.Common.{◌≡◌, ◌*◌, take}
use Rattle.std.specs.List.{flat_map}
use Rattle.sheets.proofs.sheet.write.write_entries.Given as goal

-- the entries of the rows passed are written
abbrev pub invariant-loop-i : goal.invariant-loop-i
invariant-loop-i g l = take (g.row.N * l.i) l.out ≡ flat_map g.E.Entry.bytes (take l.i l.rows)
