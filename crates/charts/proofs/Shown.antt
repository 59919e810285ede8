-- Who runs on a processor is who is shown.
use Rattle.std.proofs.Common.{◌≡◌, ℕ, suc, ◌≤◌, true, false, ◌⊎◌, List, [], ◌∷◌, Some, None, Option, min, sym, refl, ap, ◌∙◌, subst, inl, inr, add-one, arith}
use mathlib.Core.HLevel.{is_prop→PathP}
use Rattle.std.proofs.Props.{props}
use Rattle.std.proofs.lemmas.Bool.{cases_eq, cond-true, cond-false, eq-eqb, ne_eqb}
use Rattle.std.proofs.lemmas.Bool.Decides.{nat_tests}
use Rattle.timeline.specs.Processor.{Demands, runs, Idle}
use Rattle.runner.specs.declared.span.Span.{Span}
use Rattle.runner.specs.Levels.{last_tick}
use Rattle.runner.specs.Running.{RunsAt, Ran, Stands}
use Rattle.sheets.specs.Sheets.{rows_of}
use Rattle.sheets.proofs.Soundness.{sheet_sound}
use Rattle.sheets.specs.Checks.{Sound}
use Rattle.sheets.specs.declared.row.SheetRow.{SheetRow}
use Rattle.charts.specs.Charts.{id_running, shown}
use Rattle.charts.specs.Plans.{demands_of, from_zero, row_on}
use Rattle.charts.specs.Runs.{id_on, id_for, NextTicks}
use Rattle.charts.specs.declared.running.Run.{Run}
use Rattle.charts.specs.declared.running.Running.{Running}
use Rattle.charts.proofs.Levels.{top_free}
use Rattle.charts.proofs.Shift.{runs_shift, idle_shift, one_runs}

id_of_level : (D : Demands) (tick level : ℕ) → runs D tick level ≡ true → (rows : List SheetRow) → id_running D tick rows ≡ id_on (row_on level rows)
id_of_level D tick level run [] = refl
id_of_level D tick level run (row ∷ rows) = go (cases_eq row.level level) (id_of_level D tick level run rows)
  where
    go : (row.level ≡ level) ⊎ (row.level ≡ level → ⊥) → id_running D tick rows ≡ id_on (row_on level rows) → id_running D tick (row ∷ rows) ≡ id_on (row_on level (row ∷ rows))
    go (inl same) later =
        cond-true _ _ _ (subst (λ l. runs D tick l ≡ true) (sym same) run) ∙ sym (ap id_on (cond-true _ (Some row) (row_on level rows) (eq-eqb _ _ same)))
    go (inr ne) later =
        cond-false _ _ _ (one_runs D tick level row.level run (λ e. ne (sym e))) ∙ later
        ∙ sym (ap id_on (cond-false _ (Some row) (row_on level rows) (ne_eqb _ _ ne)))

id_of_none : (D : Demands) (tick : ℕ) → Idle D tick → (rows : List SheetRow) → id_running D tick rows ≡ 0
id_of_none D tick idle [] = refl
id_of_none D tick idle (row ∷ rows) =
    let rest : runs D tick row.level ≡ false = (let z = idle row.level in grind (arith, nat_tests)) in
    cond-false _ _ _ rest ∙ id_of_none D tick idle rows

shown_by :
    (rows : List SheetRow) → Sound rows → (chosen : Option ℕ) (tick : ℕ) → RunsAt (from_zero (demands_of rows)) chosen tick →
    shown rows tick ≡ id_for rows chosen
unfolding shown
shown_by rows sound (Some level) tick run =
    id_of_level (demands_of rows) tick (suc level) (runs_shift (demands_of rows) (top_free rows sound) tick level ∙ run) rows
    ∙ ap (λ l. id_on (row_on l rows)) (sym (add-one level))
shown_by rows sound None tick idle = id_of_none (demands_of rows) tick (idle_shift (demands_of rows) (top_free rows sound) tick idle) rows

-- the processor ran on by a span
pub ran_by :
    (r r' : Running) (until : ℕ) (span : Span) → Ran r.processor (min until last_tick) span r'.processor → r'.sheet.now ≡ r.sheet.now →
    (id : ℕ) → id ≡ id_for (rows_of r.sheet.now) span.runs → NextTicks r until (Some (record { id = id; length = span.length })) r'
ran_by r r' until span ran same_sheet id is =
    let from = ran.from in
    let to = ran.to in
    let within = ran.within in (
      ran.some,
      omega arith,
      record {
        sheet = same_sheet;
        tick = omega arith;
        same = λ tick after l. shown_by (rows_of r.sheet.now) (sheet_sound r.sheet.now) span.runs tick (ran.runs _ r.stands tick (omega arith) l) ∙ sym is;
      },
    )

-- the processor stayed
pub stayed :
    (r r' : Running) (until : ℕ) (run : Option Run) → run ≡ None → min until last_tick ≤ r.processor.tick → r'.sheet ≡ r.sheet →
    r'.processor ≡ r.processor → NextTicks r until run r'
stayed r r' until run none end sheet processor = subst (λ o. NextTicks r until o r') (sym none) (end, same)
  where
    same : r' ≡ r
    same =
        λ i. record {
          sheet = sheet i;
          processor = processor i;
          stands = is_prop→PathP (λ j. Stands (from_zero (demands_of (rows_of (sheet j).now))) (processor j)) (λ j. Prim.hlevel props) r'.stands r.stands i;
        }
