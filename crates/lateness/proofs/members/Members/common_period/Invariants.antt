use Rattle.periods.specs.Rows.{periods_of}
use Rattle.lateness.proofs.Gathered.{Gathered}
use Rattle.lateness.proofs.Walked.{Along}
use Rattle.lateness.proofs.members.Members.common_period.Given as goal

abbrev pub invariant-loop-member : goal.invariant-loop-member
invariant-loop-member l =
    record { along : Along l.fn.self l.member-iterator; gathered : Gathered l.fn.self (periods_of l.periods) l.member-iterator.place }
