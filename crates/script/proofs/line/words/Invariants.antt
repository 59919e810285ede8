use Rattle.std.proofs.Common.{◌≡◌, ◌≤◌, [], ◌++◌, drop, vec_items}
use Rattle.std.specs.List.{between}
use Rattle.script.specs.Words.{words_after, texts}
use Rattle.script.proofs.line.words.Given as goal

-- the words found, and those of what is left after the word begun
abbrev pub invariant-loop-i : goal.invariant-loop-i
invariant-loop-i l = (l.start ≤ l.i) × (texts (vec_items l.words) ++ words_after (between l.start l.i l.text) (drop l.i l.text) ≡ words_after [] l.text)
