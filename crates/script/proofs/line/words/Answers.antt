use Rattle.std.proofs.Common.{◌≡◌, vec_items, sym, subst, arith}
use Rattle.std.specs.List.{AllByRecursion as All}
use Rattle.script.specs.Words.{texts, words_of, Word}
use Rattle.script.proofs.Cutting.{word_ends, word_more, word_last, all_words_of}
use Rattle.script.proofs.line.words.Goals as goal
use Rattle.script.proofs.line.words.Goals.{then-is_blank+in_ok-add, else-is_blank}

pub loop-i-preserved : goal.loop-i-preserved
loop-i-preserved c =
    let text = c.before_comment-text.result.now in
    let found = texts (vec_items c.loop-i.words) in
    elim c.if-is_blank.branch [
      | then-is_blank+in_ok-add w ↦
          let step = word_ends found text c.loop-i.start c.loop-i.i c.loop-i-test.true (sym w.if-is_blank.ensures) in
          let added = w.in_ok-add.ensures in
          (omega (arith, w.start-is), cc)
      | else-is_blank w ↦
          let step = word_more found text c.loop-i.start c.loop-i.i c.loop-i-test.true c.loop-i.invariant.0 (sym w.if-is_blank.ensures) in
          (omega (arith, w.start-is), cc)
    ]

pub returns : goal.returns
returns c =
    let text = c.before_comment-text.result.now in
    let found = texts (vec_items c.loop-i.words) in
    let step = word_last found text c.loop-i.start c.loop-i.i (omega arith) in
    let added = c.in_ok-add-2.ensures in
    let exact : texts (vec_items c.add-2.new.words) ≡ words_of c.args.line.now = cc in
    record { exact = exact; clean = subst (All Word) (sym exact) (all_words_of c.args.line.now) }
