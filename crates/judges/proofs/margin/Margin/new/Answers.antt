use Rattle.judges.specs.MarginLaws.{no_margin}
use Rattle.judges.proofs.margin.Margin.new.Goals as goal

pub returns-then-percent-gt-LARGEST_MARGIN-clause-nothing : goal.returns-then-percent-gt-LARGEST_MARGIN-clause-nothing
returns-then-percent-gt-LARGEST_MARGIN-clause-nothing g c = no_margin

pub returns-clause-nothing : goal.returns-clause-nothing
returns-clause-nothing g c = no_margin
