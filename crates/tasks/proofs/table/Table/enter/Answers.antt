use Rattle.std.proofs.Common.{◌≡◌, ◌<◌, ◌≤◌, length, Err, rules, ap, ◌∙◌, sym, refl}
use Rattle.std.specs.List.{insert}
use Rattle.std.proofs.lemmas.Bool.{lt-leb, le-leb}
use Rattle.std.proofs.lemmas.Result.{err_from_is_err_and}
use Rattle.refusals.specs.declared.Refusal.TheVariants.{TooManyTasks}
use Rattle.periods.specs.Multiples.{most_tasks}
use Rattle.short_list.specs.Items.{items_of}
use Rattle.tasks.specs.Rows.{figures_of, entered}
use Rattle.tasks.specs.Tables.{rows_of}
use Rattle.tasks.proofs.Changes.{figures_of-entered}
use Rattle.tasks.proofs.Faults.{test_from_fair}
use Rattle.tasks.proofs.Found.{entered_here, stands_not, positive, tidy_after}
use Rattle.tasks.proofs.Ordered.{same_table}
use Rattle.tasks.proofs.table.Table.enter.Goals as goal

pub invariant_of-self : goal.invariant_of-self
invariant_of-self c =
    let gap = c.in_ok-at.ensures in
    let put = c.insert.ensures in
    let id = ap (λ row. row.id) c.in_ok-row.ensures.cases.1 in
    record {
      tidy = tidy_after c.in_ok-row.row _ _ _ _ (rw id gap.1) (rw id (positive _ _ gap.0)) (test_from_fair _ c.in_ok-row.ensures.fair) c.args.self.now.tidy put.ok put.full;
    }

pub returns-in_err-map_err-clause-updated : goal.returns-in_err-map_err-clause-updated
returns-in_err-map_err-clause-updated c =
    let formed = c.in_ok-row.ensures.cases in
    let many : most_tasks ≤ length (rows_of c.args.self.now) = search rules in
    let same : c.insert.new.self ≡ c.args.self.now.rows = search rules in
    let exit = err_from_is_err_and c.from_residual-in_err-map_err.result c.from_residual-in_err-map_err.ensures.1 in
    let why : c.in_err-map_err.field-0.0 ≡ TooManyTasks = search rules in
    rw (c.in_ok-at.ensures.0, formed.0, le-leb _ _ many) (exit.1 ∙ ap Err (exit.2 ∙ why), same_table _ _ same)

pub returns : goal.returns
returns c =
    let gap = c.in_ok-at.ensures in
    let formed = c.in_ok-row.ensures.cases in
    let new = c.in_ok-row.row in
    let rows = rows_of c.args.self.now in
    let put : items_of c.insert.new.self ≡ insert rows c.in_ok-at.at new = search rules in
    let room : length rows < most_tasks = search rules in
    let left = put ∙ sym (entered_here _ _ _ gap.1 new (ap (λ row. row.id) formed.1)) ∙ ap (λ row. entered row rows) formed.1 in
    record {
      updated = rw (gap.0, formed.0, lt-leb most_tasks _ room) (refl, left);
      law = λ _ other. ap (figures_of other) left ∙ figures_of-entered _ _ other (stands_not _ _ _ gap.1);
    }
