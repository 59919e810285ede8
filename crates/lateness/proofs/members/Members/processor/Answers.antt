use Rattle.std.proofs.Common.{length, rules}
use Rattle.lateness.specs.Members.{tasks_in}
use Rattle.lateness.proofs.Hosted.{Raised, raised_more, raised_rest, raised_skip, hosted, raised_few, added_as}
use Rattle.lateness.proofs.Walked.{here, reaches, ends}
use Rattle.lateness.proofs.members.Members.processor.Goals as goal
use Rattle.lateness.proofs.members.Members.processor.Goals.{In-None}

pub loop-member-preserved-then-member-self : goal.loop-member-preserved-then-member-self
loop-member-preserved-then-member-self c =
    let m = c.args.self in
    let w = c.loop-member.member-iterator in
    let p = c.loop-member.processor in
    let inv = c.loop-member.invariant in
    let next = c.in-Some.ensures.steps in
    let member = here m w c.next.new.self c.in-Some.member inv.along next in
    record {
      along = search rules;
      raised =
          reaches m (Raised m p) (raised_skip m p) (Raised m c.put.new.processor) w c.next.new.self c.in-Some.member inv.along next inv.raised
          (raised_more m p _ _ member.1 c.if-member-self.true (added_as m _ c.in-Some.member.timed _ _ member c.put.ensures));
    }

pub loop-member-preserved : goal.loop-member-preserved
loop-member-preserved c =
    let m = c.args.self in
    let p = c.loop-member.processor in
    let inv = c.loop-member.invariant in
    record {
      along = search rules;
      raised =
          reaches m (Raised m p) (raised_skip m p) (Raised m p) c.loop-member.member-iterator c.next.new.self c.in-Some.member inv.along c.in-Some.ensures.steps inv.raised
          (raised_rest m p _ c.if-member-self.false);
    }

all : (c : In-None) → Raised c.args.self c.loop-member.processor (length (tasks_in c.args.self))
all c =
    let m = c.args.self in
    let p = c.loop-member.processor in
    ends m (Raised m p) (raised_skip m p) c.loop-member.member-iterator c.loop-member.invariant.along c.in-None.ensures.steps c.loop-member.invariant.raised

pub put-requires-2-clause-room : goal.put-requires-2-clause-room
put-requires-2-clause-room c = raised_few c.args.self _ (all (goal.at.put-requires-2-clause-room c).In-None)

pub returns : goal.returns
returns c =
    hosted c.args.self _ c.put-2.new.processor (all (goal.at.returns c).In-None) (added_as c.args.self _ c.own.result _ _ c.own.ensures c.put-2.ensures)
