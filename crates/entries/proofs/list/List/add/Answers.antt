use Rattle.std.proofs.Common.{refl, arith, rules}
use Rattle.std.proofs.lemmas.List.{take_more_set}
use Rattle.entries.proofs.Slots.{set_next}
use Rattle.entries.proofs.list.List.add.Goals as goal

-- the entry stands in the first slot that was not filled
pub returns : goal.returns
returns g c =
    let l = c.args.self.now in
    let e = c.args.entry in
    (search rules, ((take_more_set l.slots.now l.len e (omega arith), set_next l.slots.now l.len e (omega arith)), refl))
