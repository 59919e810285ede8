use Rattle.std.proofs.Common.{refl, ap, ◌∙◌}
use Rattle.charts.specs.Runs.{id_for}
use Rattle.charts.proofs.Shown.{ran_by, stayed}
use Rattle.charts.proofs.running.Running.advance.Goals as goal

pub returns-in_err-span : goal.returns-in_err-span
returns-in_err-span c = let end = c.in_err-span.ensures in stayed c.args.self.now _ c.args.until _ c.from_residual.ensures end.0 refl end.1

pub returns : goal.returns
returns c =
    let span = c.in_ok-span.span in
    ran_by c.args.self.now _ c.args.until span c.in_ok-span.ensures refl _ (c.id_for.ensures ∙ ap (λ rows. id_for rows span.runs) c.rows.ensures.value)
