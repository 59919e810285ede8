use Rattle.std.proofs.Common.{ap, ◌∙◌, ◌≡◌, [], ◌∷◌, rules}
use Rattle.sheets.specs.Checks.{rows_fault}
use Rattle.worked.specs.Plan.{planned_rows}
use Rattle.worked.proofs.Formed.{forms, formed}
use Rattle.worked.proofs.Plan.{sound}
use Rattle.worked.proofs.Tables.{worked_tables}
use Rattle.worked.proofs.worked_plan.Goals as goal
use Rattle.worked.proofs.worked_plan.Goals.{After-form}

-- the rows are those of the plan
same_rows : (g : _) (c : After-form g) → (c.new-2.result ∷ c.new-4.result ∷ c.new-6.result ∷ []) ≡ planned_rows
same_rows g c = search rules

pub unwrap-requires : goal.unwrap-requires
unwrap-requires g c = forms _ _ (ap rows_fault (same_rows g c) ∙ sound) c.form.result c.form.ensures.value

pub returns : goal.returns
returns g c = record {
  rows = formed _ _ c.form.result c.unwrap.result c.form.ensures.value c.unwrap.ensures ∙ same_rows g (goal.at.returns g c).After-form;
  tables = worked_tables g.J.Judge.meaning;
}
