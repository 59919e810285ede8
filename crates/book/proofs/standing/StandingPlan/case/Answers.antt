use Rattle.std.proofs.Common.{◌≡◌, map, ap, ◌∙◌, rules}
use Rattle.std.specs.Slice.Iter.{iter_rest}
use Rattle.short_list.specs.Items.{items_of}
use Rattle.short_list.proofs.Collected.{collected_items}
use Rattle.tasks.specs.declared.rows.Timed.{Timed}
use Rattle.sheets.specs.Checks.{timed_in}
use Rattle.sheets.specs.Sheets.{rows_of}
use Rattle.sheets.specs.declared.row.SheetRow.{SheetRow}
use Rattle.book.proofs.standing.StandingPlan.case.Goals as goal
use Rattle.book.proofs.standing.StandingPlan.case.Goals.{After-unwrap}

-- each row has become a task with its start
timed : (c : After-unwrap) → items_of c.unwrap.result ≡ timed_in (rows_of c.args.self.now.sheet)
timed c =
    let of : SheetRow → Timed = λ row. record { figures = row.figures; start = row.start } in
    collected_items _ _ c.unwrap.ensures c.from_iter.ensures.all iter_rest of (λ row r f' k. search rules) c.map-timed.ensures.runs c.iter.ensures.runs
    ∙ ap (map of) (c.iter.ensures.rest ∙ c.rows.ensures.value)

pub unwrap-requires-2 : goal.unwrap-requires-2
unwrap-requires-2 c = let same = timed ((goal.at.unwrap-requires-2 c).After-unwrap) in search rules

pub returns : goal.returns
returns c = let same = timed ((goal.at.returns c).After-unwrap) in search rules
