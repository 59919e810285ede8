use Rattle.std.proofs.Common.{◌∙◌, rules, tests}
use Rattle.std.proofs.lemmas.Iterator.{YieldsList-from_slice}
use Rattle.std.proofs.lemmas.Iterator.Search.{find_from_yields_List}
use Rattle.tasks.specs.Figures.{breaks, faults, first_fault}
use Rattle.tasks.proofs.figures.Figures.first_fault.Goals as goal

pub returns : goal.returns
unfolding first_fault
returns c =
    c.copied.ensures
    ∙ find_from_yields_List (breaks c.args.self) _ _ _ c.find.ensures.ran (YieldsList-from_slice faults c.iter.ensures.rest) (λ x b q k. search (rules, tests))
