use Rattle.lateness.proofs.Gathered.{Loaded}
use Rattle.lateness.proofs.Walked.{Along}
use Rattle.lateness.proofs.members.Members.load.Given as goal

abbrev pub invariant-loop-member : goal.invariant-loop-member
invariant-loop-member l =
    record { along : Along l.fn.self l.member-iterator; load : Loaded l.fn.self l.ticks l.load l.member-iterator.place }
