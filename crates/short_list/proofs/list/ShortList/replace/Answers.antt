use Rattle.std.proofs.Common.{rules}
use Rattle.std.proofs.Math.Seq.{take-set-lt}
use Rattle.short_list.proofs.list.ShortList.replace.Goals as goal

pub returns-clause-after : goal.returns-clause-after
returns-clause-after g c = take-set-lt _ _ _ _ (search rules)
