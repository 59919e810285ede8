use Rattle.lateness.proofs.Hosted.{Raised}
use Rattle.lateness.proofs.Walked.{Along}
use Rattle.lateness.proofs.members.Members.processor.Given as goal

abbrev pub invariant-loop-member : goal.invariant-loop-member
invariant-loop-member l =
    record { along : Along l.fn.self l.member-iterator; raised : Raised l.fn.self l.processor l.member-iterator.place }
