use Rattle.std.proofs.Common.{◌+◌, arith}
use Rattle.std.proofs.lemmas.Bool.Decides.{nat_tests}
use Rattle.periods.proofs.Places.{MultipleSoFar, multiple_none, multiple_more}
use Rattle.periods.proofs.row.calls.common_multiple.Goals as goal
use Rattle.periods.proofs.row.calls.common_multiple.Goals.{After-lcm-common}

step : (c : After-lcm-common) → MultipleSoFar c.args.periods.now (c.loop-period.period-index + 1) c.lcm-common.result
step c =
    multiple_more _ _ _ _ _ (omega arith) c.requires c.loop-period.invariant.0 c.from.ensures c.lcm-common.ensures

pub returns-then-common-gt-LONGEST_COMMON_PERIOD :
    goal.returns-then-common-gt-LONGEST_COMMON_PERIOD
returns-then-common-gt-LONGEST_COMMON_PERIOD c =
    grind (arith, nat_tests, step (goal.at.returns-then-common-gt-LONGEST_COMMON_PERIOD c).After-lcm-common)

pub loop-period-init : goal.loop-period-init
loop-period-init c = (multiple_none _ c.requires, omega arith)

pub loop-period-preserved : goal.loop-period-preserved
loop-period-preserved c = (step (goal.at.loop-period-preserved c).After-lcm-common, omega arith)
