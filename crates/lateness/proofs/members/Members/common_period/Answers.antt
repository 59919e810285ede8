use Rattle.std.proofs.Common.{length, sym, ap, ◌∙◌, arith, rules}
use Rattle.periods.specs.Rows.{periods_of}
use Rattle.tasks.proofs.Loads.{answered}
use Rattle.lateness.specs.Members.{tasks_in}
use Rattle.lateness.proofs.Gathered.{Gathered, gathered_more, gathered_rest, common_answered, common_is}
use Rattle.lateness.proofs.Walked.{here, reaches, ends}
use Rattle.lateness.proofs.members.Members.common_period.Goals as goal
use Rattle.lateness.proofs.members.Members.common_period.Goals.{In-None}

pub loop-member-preserved : goal.loop-member-preserved
loop-member-preserved c =
    let m = c.args.self in
    let w = c.loop-member.member-iterator in
    let inv = c.loop-member.invariant in
    let next = c.in-Some.ensures.steps in
    let ts = periods_of c.loop-member.periods in
    let member = here m w c.next.new.self c.in-Some.member inv.along next in
    record {
      along = search rules;
      gathered =
          reaches m (Gathered m ts) (gathered_rest m ts) (Gathered m (periods_of c.add.new.self)) w c.next.new.self c.in-Some.member inv.along next inv.gathered
          (gathered_more m ts _ member.0 c.figures.result.period _ (search rules) (ap (λ f. f.period) (c.figures.ensures.value ∙ sym member.2)));
    }

all : (c : In-None) → Gathered c.args.self (periods_of c.loop-member.periods) (length (tasks_in c.args.self))
all c =
    let ts = periods_of c.loop-member.periods in
    ends c.args.self (Gathered c.args.self ts) (gathered_rest c.args.self ts) c.loop-member.member-iterator c.loop-member.invariant.along
    c.in-None.ensures.steps c.loop-member.invariant.gathered

pub unwrap-requires-2 : goal.unwrap-requires-2
unwrap-requires-2 c =
    let none = common_answered c.args.self _ _ c.loop-member.periods.proper (all (goal.at.unwrap-requires-2 c).In-None) (omega arith) in search rules

pub returns : goal.returns
returns c =
    common_is c.args.self _ _ c.loop-member.periods.proper (all (goal.at.returns c).In-None) (omega arith) c.unwrap-2.result
    (answered (periods_of c.loop-member.periods) _ (sym c.unwrap-2.ensures ∙ c.common_period.ensures.value)).1
