use Rattle.std.proofs.Common.{unwrap_or, sym, ap, ◌∙◌, arith, rules}
use Rattle.std.proofs.lemmas.Iterator.{YieldsList-from_slice, YieldsList-from_map}
use Rattle.std.proofs.lemmas.Iterator.Consumers.{YieldsList-at, max_from_yields_List}
use Rattle.std.proofs.lemmas.Iterator.Adapters.{option_map_id}
use Rattle.sheets.specs.declared.row.SheetRow.{SheetRow}
use Rattle.periods.specs.Multiples.{common_period}
use Rattle.tasks.specs.Loads.{periods_in}
use Rattle.charts.specs.Plans.{tasks_of, latest_start, horizon}
use Rattle.charts.proofs.Near.{latest_near, latest_of}
use Rattle.charts.proofs.plan.horizon.Goals as goal

pub returns : goal.returns
unfolding horizon
returns c =
    let rows = c.rows.ensures.value in
    let sound = c.rows.ensures.sound in
    let highest =
    sym (option_map_id c.max.result)
    ∙ max_from_yields_List _ _ c.max.ensures.ran
    (YieldsList-from_map _ (λ (row : SheetRow). row.start) (YieldsList-at c.map-starts.ensures.source (YieldsList-from_slice c.rows.result.now cc)) c.map-starts.ensures.closure (λ x r q k. search rules)) in
    let latest = c.from.ensures ∙ c.unwrap_or.ensures ∙ ap (λ most. unwrap_or most 0) highest ∙ latest_of c.rows.result.now in
    let same = ap latest_start rows in
    let period = ap (λ all. common_period (periods_in (tasks_of all))) rows in
    let is = c.common_period.ensures in
    let short = sound.case.short in
    let near = latest_near _ sound in
    record { value = omega arith; near = omega arith }
