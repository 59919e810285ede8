use Rattle.std.proofs.Common.{arith, refl, ap, ◌∙◌}
use Rattle.std.specs.Option.{ok_or}
use Rattle.planbook.specs.declared.failure.LineFault.TheVariants.{NoFigure}
use Rattle.planbook.proofs.Narrow.{reads_up_to}
use Rattle.planbook.proofs.reading.read_figure.Goals as goal

pub returns : goal.returns
returns c = c.ok_or.ensures.value ∙ ap (λ o. ok_or o NoFigure) (reads_up_to _ 16 65535 c.args.word.now c.number.result (omega arith) refl c.number.ensures)
