use Rattle.periods.proofs.Places.{DigitsSoFar}
use Rattle.periods.proofs.list.Choices.starts.Given as goal

abbrev pub invariant-loop-place : goal.invariant-loop-place
invariant-loop-place l = DigitsSoFar l.radix-items l.rank l.place l.rest l.weight l.starts
