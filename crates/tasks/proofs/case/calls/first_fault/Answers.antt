use Rattle.std.proofs.Common.{◌∙◌, rules, tests}
use Rattle.std.specs.List.{list_any}
use Rattle.std.proofs.lemmas.Iterator.{YieldsList-from_slice}
use Rattle.std.proofs.lemmas.Iterator.Search.{find_from_yields_List}
use Rattle.tasks.specs.Figures.{breaks, faults}
use Rattle.tasks.specs.Timed.{first_fault_in}
use Rattle.tasks.proofs.case.calls.first_fault.Goals as goal

pub returns : goal.returns
unfolding first_fault_in
returns c =
    c.copied.ensures
    ∙ find_from_yields_List (λ fault. list_any (λ row. breaks row.figures fault) c.args.rows.now) _ _ _ c.find.ensures.ran
    (YieldsList-from_slice faults c.iter.ensures.rest) (λ x b q k. search (rules, tests))
