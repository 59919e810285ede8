use Rattle.std.proofs.Common.{◌*◌, ◌/◌, ap}
use Rattle.periods.specs.Multiples.{lcm}
use Rattle.periods.proofs.lcm.Goals as goal

pub returns : goal.returns
unfolding lcm
returns c = ap (λ g. c.args.common * (c.args.period / g)) c.gcd.ensures.value
