use Rattle.std.proofs.Common.{◌<◌, [], ◌∷◌, ◌++◌, length, vec_items, sym, refl, ap, ◌∙◌, arith}
use Rattle.std.proofs.lemmas.List.{map_push}
use Rattle.std.proofs.lemmas.Slice.{pushed}
use Rattle.std.proofs.lemmas.Bool.Decides.{nat_tests}
use Rattle.script.specs.Words.{texts}
use Rattle.script.proofs.Cutting.{single_some}
use Rattle.script.proofs.line.add.Goals as goal

pub returns-in_ok-push : goal.returns-in_ok-push
returns-in_ok-push c =
    let some : 0 < length c.args.word.now = grind (arith, nat_tests, c.if-not-is_empty.ensures) in
    ap texts (pushed (c.args.word ∷ []) refl c.in_ok-push.was c.push.ensures.items)
    ∙ map_push (λ word. word.now) (vec_items c.args.words.now) c.args.word
    ∙ ap (λ ws. texts (vec_items c.args.words.now) ++ ws) (sym (single_some c.args.word.now some))
