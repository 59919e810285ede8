use Rattle.std.proofs.Common.{◌+◌, ◌*◌, ◌<◌, drop, sym, ◌∙◌, arith}
use Rattle.script.proofs.Reading.{stops_at, digit_more, past_limit, all_read, read_whole}
use Rattle.script.proofs.number.number_up_to.Goals as goal

pub loop-b-init : goal.loop-b-init
loop-b-init c = (omega arith, read_whole c.args.limit c.args.word.now (sym c.if-is_empty.ensures))

pub returns-then-not-is_ascii_digit : goal.returns-then-not-is_ascii_digit
returns-then-not-is_ascii_digit c =
    sym (stops_at _ _ _ _ c.loop-b-test.true (sym c.if-not-is_ascii_digit.ensures.value)) ∙ c.loop-b.invariant.1

pub returns-then-value-from : goal.returns-then-value-from
returns-then-value-from c =
    let past : c.args.limit < c.loop-b.value * 10 + c.from.result = omega arith in
    sym (past_limit _ _ (drop (c.loop-b.b-index + 1) c.args.word.now) past)
    ∙ sym (digit_more _ _ _ _ _ c.loop-b-test.true (sym c.if-not-is_ascii_digit.ensures.value) c.from.ensures)
    ∙ c.loop-b.invariant.1

pub loop-b-preserved : goal.loop-b-preserved
loop-b-preserved c = (
  omega arith,
  sym (digit_more _ _ _ _ _ c.loop-b-test.true (sym c.if-not-is_ascii_digit.ensures.value) c.from.ensures) ∙ c.loop-b.invariant.1,
)

pub returns : goal.returns
returns c = sym (all_read _ _ _ _ c.loop-b-test.false c.loop-b.invariant.0) ∙ c.loop-b.invariant.1
