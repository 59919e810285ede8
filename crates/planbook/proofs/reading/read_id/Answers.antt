use Rattle.std.proofs.Common.{arith, refl, ap, ◌∙◌}
use Rattle.std.specs.Option.{ok_or}
use Rattle.planbook.specs.declared.failure.LineFault.TheVariants.{NoId}
use Rattle.planbook.proofs.Narrow.{reads_up_to}
use Rattle.planbook.proofs.reading.read_id.Goals as goal

pub returns : goal.returns
returns c = c.ok_or.ensures.value ∙ ap (λ o. ok_or o NoId) (reads_up_to _ 8 255 c.args.word.now c.number.result (omega arith) refl c.number.ensures)
