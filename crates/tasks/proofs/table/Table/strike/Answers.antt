use Rattle.std.proofs.Common.{refl, sym, ap, ◌∙◌}
use Rattle.tasks.specs.Rows.{tidy, figures_of}
use Rattle.tasks.proofs.Changes.{tidy-struck, figures_of-struck}
use Rattle.tasks.proofs.Found.{struck_here}
use Rattle.tasks.proofs.table.Table.strike.Goals as goal

pub invariant_of-self : goal.invariant_of-self
invariant_of-self c =
    let left = c.remove.ensures.after ∙ sym (struck_here _ _ _ c.in_ok-at.ensures.1) in
    record { tidy = ap (tidy 1) left ∙ tidy-struck c.args.id 1 _ c.args.self.now.tidy }

pub returns : goal.returns
returns c =
    let found = c.in_ok-at.ensures in
    let left = c.remove.ensures.after ∙ sym (struck_here _ _ _ found.1) in
    record {
      updated = rw found.0 (refl, left);
      law = λ _ other. ap (figures_of other) left ∙ figures_of-struck _ 1 _ other c.args.self.now.tidy;
    }
