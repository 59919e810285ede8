use Rattle.std.proofs.Common.{refl, sym, ap, ◌∙◌}
use Rattle.tasks.specs.Rows.{tidy, figures_of, amended}
use Rattle.tasks.specs.Tables.{rows_of}
use Rattle.tasks.proofs.Changes.{tidy-amended, figures_of-amended}
use Rattle.tasks.proofs.Faults.{test_from_fair}
use Rattle.tasks.proofs.Found.{stands_here, amended_here}
use Rattle.tasks.proofs.table.Table.amend.Goals as goal

pub invariant_of-self : goal.invariant_of-self
invariant_of-self c =
    let row = c.in_ok-row.row in
    let is = c.in_ok-row.ensures.cases.1 in
    let left = c.replace.ensures.after ∙ sym (amended_here _ _ _ c.in_ok-at.ensures.1 row (ap (λ row. row.id) is)) in
    record { tidy = ap (tidy 1) left ∙ tidy-amended row 1 _ (test_from_fair _ c.in_ok-row.ensures.fair) c.args.self.now.tidy }

pub returns : goal.returns
returns c =
    let found = c.in_ok-at.ensures in
    let formed = c.in_ok-row.ensures.cases in
    let left = c.replace.ensures.after ∙ sym (amended_here _ _ _ found.1 c.in_ok-row.row (ap (λ row. row.id) formed.1))
    ∙ ap (λ row. amended row (rows_of c.args.self.now)) formed.1 in
    record {
      updated = rw (found.0, formed.0) (refl, left);
      law = λ _ other. ap (figures_of other) left ∙ figures_of-amended _ _ other (stands_here _ _ _ found.1);
    }
