use Rattle.std.proofs.Common.{◌≡◌, is_ok, map, sym, ap, ◌∙◌, rules}
use Rattle.refusals.specs.Answers.{answer}
use Rattle.periods.specs.Multiples.{common_period, period_refusal}
use Rattle.periods.specs.Rows.{periods_of}
use Rattle.tasks.specs.Loads.{periods_in}
use Rattle.sheets.proofs.Entries.{figures_timed}
use Rattle.sheets.proofs.Held.{few_rows, fair_rows, period_answered}
use Rattle.sheets.proofs.sheet.Sheet.common_period.Goals as goal

pub unwrap-requires : goal.unwrap-requires
unwrap-requires c =
    let sound = c.rows.ensures.sound in
    c.periods_of.ensures.fair (few_rows _ sound) (fair_rows _ sound)

pub unwrap-requires-2 : goal.unwrap-requires-2
unwrap-requires-2 c =
    let rows = c.rows.result.now in
    let held : periods_of c.unwrap.result ≡ periods_in (map (λ row. row.figures) rows) = search rules in
    let periods = held ∙ ap periods_in (sym (figures_timed rows)) in
    let none = ap period_refusal periods ∙ period_answered _ c.rows.ensures.sound in
    ap is_ok (c.common_period.ensures.value ∙ ap (λ refusal. answer refusal (common_period (periods_of c.unwrap.result))) none)

pub returns : goal.returns
returns c =
    let rows = c.rows.result.now in
    let held : periods_of c.unwrap.result ≡ periods_in (map (λ row. row.figures) rows) = search rules in
    let periods = held ∙ ap periods_in (sym (figures_timed rows)) in
    let none = ap period_refusal periods ∙ period_answered _ c.rows.ensures.sound in
    let is = c.common_period.ensures.value ∙ ap (λ refusal. answer refusal (common_period (periods_of c.unwrap.result))) none in
    let value = c.unwrap-2.ensures in
    let same = c.rows.ensures.value in
    cc
