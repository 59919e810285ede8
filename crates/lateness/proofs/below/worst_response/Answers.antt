use Rattle.timeline.proofs.Related.{starts_relate_law}
use Rattle.lateness.proofs.Ruled.{responds}
use Rattle.lateness.proofs.below.worst_response.Goals as goal

pub returns-in_err-of-clause-related : goal.returns-in_err-of-clause-related
returns-in_err-of-clause-related c = starts_relate_law

pub returns : goal.returns
returns c =
    record {
      value = responds c.args.judged c.in_ok-of.field-0 c.response.result c.in_ok-of.ensures c.response.ensures;
      related = starts_relate_law;
    }
