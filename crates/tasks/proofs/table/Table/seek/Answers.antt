use Rattle.std.proofs.Common.{◌≡◌, ℕ, ◌==◌, None, rules}
use Rattle.std.proofs.lemmas.Fn.{always_returns_same}
use Rattle.refusals.specs.Answers.{refuse_if}
use Rattle.refusals.specs.declared.Refusal.TheVariants.{ZeroId}
use Rattle.tasks.specs.declared.rows.Row.{Row}
use Rattle.tasks.proofs.Sought.{sought}
use Rattle.tasks.proofs.table.Table.seek.Goals as goal

pub returns : goal.returns
returns c =
    let found = c.binary_search_by_key.ensures in
    let key : Row → ℕ = λ row. row.id in
    let positive : refuse_if (c.args.id == 0) ZeroId ≡ None = search rules in (
      positive,
      sought _ _ _ c.args.self.now.tidy (rw c.deref.ensures.0 at found.bound)
          (rw c.deref.ensures.0 at (found.position key (always_returns_same _ (λ a r. r ≡ key a.0.now) _ (λ a r f' k. search rules)))),
    )
