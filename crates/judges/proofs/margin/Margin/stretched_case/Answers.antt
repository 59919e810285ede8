use Rattle.std.proofs.Common.{length, sym, ap, subst, arith, rules}
use Rattle.std.proofs.lemmas.List.FromFn.{length-map-range_with_len}
use Rattle.tasks.specs.Places.{has}
use Rattle.judges.specs.Margin.{StretchedCase}
use Rattle.judges.proofs.MarginRuns.{changed_row, changed_more, case_formed}
use Rattle.judges.proofs.margin.Margin.stretched_case.Goals as goal

-- a case has no more rows than the list takes
pub unwrap-requires : goal.unwrap-requires
unwrap-requires g c =
    c.push.ensures.room.1
    (omega (
      arith,
      ap length c.loop-place.invariant,
      length-map-range_with_len (changed_row c.args.self.now.percent c.rows-rows.result.now c.args.judged.place (has c.args.judged.above.now)) 0 c.loop-place.place,
      c.rows-rows.ensures.sound.few,
      c.loop-place-test.true,
    ))

pub loop-place-preserved : goal.loop-place-preserved
loop-place-preserved g c =
    changed_more c.args.self.now.percent c.rows-rows.result.now c.args.judged.place (has c.args.judged.above.now) c.loop-place.place _ _
    c.if-is_member.row c.loop-place.invariant (search rules) (search rules)

pub returns : goal.returns
returns g c =
    subst (StretchedCase c.args.self.now.percent c.args.judged) (sym c.ok.ensures.value)
    (case_formed c.args.self.now.percent c.args.judged c.rows-rows.result.now _ c.form.result c.rows-rows.ensures.value c.rows-rows.ensures.sound
    (search rules) c.form.ensures.value c.form.ensures.sound)
