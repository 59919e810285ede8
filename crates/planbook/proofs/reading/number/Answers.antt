use Rattle.std.proofs.Common.{rules}
use Rattle.planbook.proofs.Narrow.{reads_number}
use Rattle.planbook.proofs.reading.number.Goals as goal

pub returns : goal.returns
returns g c = reads_number _ c.args.word.now c.in_ok-number.number c.try_from.result c.ok.result (search rules) c.try_from.ensures c.ok.ensures.value
