use Rattle.std.proofs.Common.{false, arith}
use Rattle.std.proofs.iter.Serving.{serving}
use Rattle.tasks.proofs.Picked.{filled_by}
use Rattle.tasks.proofs.places.Places.from_fn.Given as given
use Rattle.tasks.proofs.places.Places.from_fn.Goals as goal

pub from_fn-requires : goal.from_fn-requires
from_fn-requires g c = (omega arith, grind serving)

pub returns-clause-inside : goal.returns-clause-inside
returns-clause-inside g c place inside =
    filled_by _ c.args.test c.from_fn.result (given.F-post g c.args.test) (λ i y q called. let step = called.met in grind serving) 8 0 c.from_fn.ensures.items.each place false (omega arith) (omega arith)
