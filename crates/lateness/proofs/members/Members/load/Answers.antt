use Rattle.std.proofs.Common.{◌+◌, ◌*◌, ◌/◌, rules}
use Rattle.lateness.proofs.Gathered.{Loaded, load_more, load_rest}
use Rattle.lateness.proofs.Walked.{here, reaches, ends}
use Rattle.lateness.proofs.members.Members.load.Goals as goal

pub loop-member-preserved : goal.loop-member-preserved
loop-member-preserved c =
    let m = c.args.self in
    let w = c.loop-member.member-iterator in
    let inv = c.loop-member.invariant in
    let next = c.in-Some.ensures.steps in
    let new = c.loop-member.load + c.from.result * (c.args.ticks / c.from-in-loop-member.result) in
    record {
      along = search rules;
      load =
          reaches m (Loaded m c.args.ticks c.loop-member.load) (load_rest m c.args.ticks c.loop-member.load)
          (Loaded m c.args.ticks new) w c.next.new.self c.in-Some.member inv.along next inv.load
          (λ so_far.
          load_more m c.args.ticks _ _ c.requires so_far c.in-Some.member.timed (here m w c.next.new.self c.in-Some.member inv.along next)
          _ _ _ c.figures-figures.ensures.value c.from.ensures c.from-in-loop-member.ensures);
    }

pub returns : goal.returns
returns c =
    let m = c.args.self in
    (ends m (Loaded m c.args.ticks c.loop-member.load) (load_rest m c.args.ticks c.loop-member.load)
    c.loop-member.member-iterator c.loop-member.invariant.along c.in-None.ensures.steps c.loop-member.invariant.load).0
