use Rattle.std.proofs.Common.{◌≡◌, ◌+◌, ◌∙◌, eqb, rules}
use Rattle.std.specs.Option.{option_map}
use Rattle.std.proofs.lemmas.Iterator.{YieldsList-from_slice}
use Rattle.std.proofs.lemmas.Iterator.Search.{find_from_yields_List}
use Rattle.charts.proofs.running.calls.row_on.Goals as goal

pub returns : goal.returns
returns c =
    let found = find_from_yields_List (λ row. eqb row.level (c.args.level + 1)) _ _ c.find.result c.find.ensures.ran (YieldsList-from_slice c.args.rows.now cc) (λ x b q k. search rules) in
    let same : c.copied.result ≡ option_map (λ row. row.now) c.find.result = search rules in
    same ∙ found
