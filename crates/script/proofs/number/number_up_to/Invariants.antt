use Rattle.std.proofs.Common.{◌≡◌, ◌≤◌, drop}
use Rattle.script.specs.Numerals.{number_up_to}
use Rattle.script.proofs.Reading.{read_after}
use Rattle.script.proofs.number.number_up_to.Given as goal

-- the digits passed write a number within the limit, and what is left is read after them
abbrev pub invariant-loop-b : goal.invariant-loop-b
invariant-loop-b l = (l.value ≤ l.limit) × (read_after l.limit l.value (drop l.b-index l.word) ≡ number_up_to l.limit l.word)
