-- The screen, over any judge.
use Rattle.std.specs.Prelude.{◌⊎◌}
use Rattle.judges.specs.Meaning.{Meaning}
use Rattle.judges.specs.WorstStart.{InTimeAtWorst}

-- yes exactly if the worst-start judge or the judge below says yes
abbrev pub Screened : Meaning → Meaning
Screened M tasks starts judged above = InTimeAtWorst tasks starts judged above ⊎ M tasks starts judged above
