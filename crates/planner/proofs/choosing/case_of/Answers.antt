use Rattle.std.proofs.Common.{ℕ, length, ap, ap₂, ◌∙◌, subst, arith, rules}
use Rattle.std.specs.Slice.Iter.{iter_rest}
use Rattle.short_list.proofs.Collected.{collected_pairs, paired}
use Rattle.tasks.specs.declared.rows.Row.{Row}
use Rattle.tasks.specs.declared.rows.Timed.{Timed}
use Rattle.tasks.specs.Cases.{Formed}
use Rattle.planner.proofs.Rows.{timed_pairs}
use Rattle.planner.proofs.choosing.case_of.Goals as goal

pub returns : goal.returns
returns c =
    let of : Row → ℕ → Timed = λ row start. record { figures = row.figures; start = start } in
    let starts = c.zip.ensures.second in
    let rows = c.iter.ensures.rest ∙ c.rows.ensures.value in
    let made = collected_pairs _ _ c.unwrap.ensures c.from_iter.ensures.all iter_rest iter_rest of (λ pair r f' k. search rules)
    c.map-timed.ensures.runs c.zip.ensures.runs c.iter.ensures.runs starts.2
    (omega (arith, ap length rows, c.rows.ensures.few, ap length c.rows.ensures.value, ap length starts.0)) in
    let given = made ∙ ap₂ (paired of) rows starts.0 ∙ timed_pairs _ _ (omega (arith, c.rows.ensures.few, ap length c.rows.ensures.value)) in
    subst (λ rows. Formed rows c.form.result) (c.deref.ensures.0 ∙ given) c.form.ensures.value
