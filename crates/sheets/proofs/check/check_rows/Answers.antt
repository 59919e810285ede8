use Rattle.std.proofs.Common.{◌≡◌, [], length, map, sym, ap, ◌∙◌, rules}
use Rattle.std.specs.Option.{option_map}
use Rattle.std.specs.Result.{result_err}
use Rattle.std.proofs.lemmas.Result.{err_from_is_err_and}
use Rattle.periods.specs.Rows.{periods_of}
use Rattle.tasks.specs.Loads.{periods_in}
use Rattle.sheets.specs.Checks.{id_fault, figures_fault, start_fault, level_fault, first_wrong, rows_fault}
use Rattle.sheets.specs.declared.fault.SheetFault.TheVariants.{LongCommonPeriod}
use Rattle.sheets.proofs.Entries.{period_found, figures_timed}
use Rattle.sheets.proofs.Soundness.{some_counted, few_counted, entry_parts, fair_from_passed, none_said, entry_said, period_said}
use Rattle.sheets.proofs.check.check_rows.Goals as goal

pub returns-then-is_empty : goal.returns-then-is_empty
returns-then-is_empty c =
    none_said c.as_slice-rows.result.now c.if-is_empty.ensures ∙ ap rows_fault c.as_slice-rows.ensures.value

pub returns-in_err-check_entries : goal.returns-in_err-check_entries
returns-in_err-check_entries c =
    let rows = c.as_slice-rows.result.now in
    let left = c.from_residual in
    let exit = err_from_is_err_and left.result left.ensures.1 in
    rw (exit.1, exit.2)
    (entry_said rows _ (few_counted _ c.if-is_empty.ensures c.as_slice-rows.ensures.few) c.in_err-check_entries.ensures
    ∙ ap rows_fault c.as_slice-rows.ensures.value)

pub unwrap-requires : goal.unwrap-requires
unwrap-requires c =
    let rows = c.as_slice-rows.result.now in
    let entries =
    entry_parts (first_wrong id_fault [] rows) (first_wrong (λ _. figures_fault) [] rows) (first_wrong (λ _. start_fault) [] rows) (first_wrong (level_fault (length rows)) [] rows)
    (sym c.in_ok-check_entries.ensures) in
    c.periods_of.ensures.fair c.as_slice-rows.ensures.few (fair_from_passed rows entries.1)

pub returns-in_err-map_err : goal.returns-in_err-map_err
returns-in_err-map_err c =
    let rows = c.as_slice-rows.result.now in
    let found : result_err c.map_err.result ≡ option_map (λ _. LongCommonPeriod) (result_err c.common_period.result) = search rules in
    let held : periods_of c.unwrap.result ≡ periods_in (map (λ row. row.figures) rows) = search rules in
    let periods = held ∙ ap periods_in (sym (figures_timed rows)) in
    let left = c.from_residual-in_err-map_err in
    let exit = err_from_is_err_and left.result left.ensures.1 in
    rw (exit.1, exit.2)
    (sym (ap result_err c.in_err-map_err.was) ∙ found
    ∙ period_found (periods_of c.unwrap.result) rows periods _ (some_counted _ c.if-is_empty.ensures) c.common_period.ensures.value
    ∙ period_said rows (few_counted _ c.if-is_empty.ensures c.as_slice-rows.ensures.few) c.in_ok-check_entries.ensures
    ∙ ap rows_fault c.as_slice-rows.ensures.value)

pub returns : goal.returns
returns c =
    let rows = c.as_slice-rows.result.now in
    let found : result_err c.map_err.result ≡ option_map (λ _. LongCommonPeriod) (result_err c.common_period.result) = search rules in
    let held : periods_of c.unwrap.result ≡ periods_in (map (λ row. row.figures) rows) = search rules in
    let periods = held ∙ ap periods_in (sym (figures_timed rows)) in
    sym (ap result_err c.in_ok-map_err.was) ∙ found
    ∙ period_found (periods_of c.unwrap.result) rows periods _ (some_counted _ c.if-is_empty.ensures) c.common_period.ensures.value
    ∙ period_said rows (few_counted _ c.if-is_empty.ensures c.as_slice-rows.ensures.few) c.in_ok-check_entries.ensures
    ∙ ap rows_fault c.as_slice-rows.ensures.value
