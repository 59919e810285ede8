-- A processor that takes the rows of a sheet level by level.
use Rattle.std.proofs.Common.{◌≡◌, ℕ, suc, ◌+◌, ◌<◌, ◌≤◌, true, cond, ltb, ◌⊎◌, List, length, is_ok, Some, None, Ok, Err, Result, sym, refl, ap, ◌∙◌, subst, inl, inr, arith, MatchResult}
use Rattle.std.proofs.lemmas.Bool.{cases_lt, cases_eq, cond-true, cond-false, eq-eqb, ne_eqb, lt-ltb}
use Rattle.std.proofs.lemmas.Bool.Decides.{nat_tests}
use Rattle.tasks.specs.declared.figures.Figures.{Figures}
use Rattle.refusals.specs.declared.TaskFault.{TaskFault}
use Rattle.tasks.specs.declared.task.Task.{Task}
use Rattle.tasks.specs.Figures.{Fair, first_fault}
use Rattle.timeline.specs.Processor.{Demands, owing}
use Rattle.timeline.specs.Requests.{requested}
use Rattle.std.specs.Result.{result_err}
use Rattle.runner.specs.declared.not_taken.NotTaken.{NotTaken}
use Rattle.runner.specs.declared.processor.Processor.{Processor}
use Rattle.runner.specs.Adding.{not_taken}
use Rattle.runner.specs.Processor.{count_of}
use Rattle.runner.specs.Running.{Stands, Added, with_level}
use Rattle.sheets.specs.Checks.{Sound}
use Rattle.sheets.proofs.Held.{few_rows, fair_rows, timely_rows}
use Rattle.sheets.specs.declared.row.SheetRow.{SheetRow}
use Rattle.charts.specs.Plans.{demands_of, from_zero, row_on}
use Rattle.charts.proofs.Levels.{demand_on, beyond_free, all_on}

-- a task that was formed has the figures that were given
pub task_of :
    (row : SheetRow) (r : Result Task TaskFault) →
    MatchResult r (λ task. (first_fault row.figures ≡ None) × (task.figures ≡ row.figures)) (λ fault. first_fault row.figures ≡ Some fault) →
    (task : Task) → r ≡ Ok task → task.figures ≡ row.figures
task_of row (Ok made) cases task is = let same : made ≡ task = cc in ap (λ t. t.figures) (sym same) ∙ cases.1
task_of row (Err fault) cases task is = absurd (let z : ◌≡◌ {A = ℕ} 0 1 = cc in omega arith)

-- before the first tick a processor stands on any demands that are the same
stands_same :
    (D E : Demands) (p : Processor) → p.tick ≡ 0 → ((level tick : ℕ) → D level tick ≡ E level tick) → Stands D p → Stands E p
stands_same D E p start same stands =
    record {
      owes = λ level. ap (λ tick. owing E tick level) start ∙ sym (ap (λ tick. owing D tick level) start) ∙ stands.owes level;
      coming = λ level tick le. sym (same level tick) ∙ stands.coming level tick le;
    }

-- the demands of the levels above one
abbrev up_to : ℕ → Demands → Demands
up_to n D level tick = cond (ltb level n) (D level tick) 0

-- the rows on the first n levels have been taken
pub record Raised (rows : List SheetRow) (n : ℕ) (p : Processor) : Type 0 where
  pub start : p.tick ≡ 0
  pub count : count_of p ≡ n
  pub stands : Stands (up_to n (from_zero (demands_of rows))) p

module _ (rows : List SheetRow) (sound : Sound rows) (n : ℕ) (p : Processor) (so_far : Raised rows n p) where
  raised_one :
      (row : SheetRow) → row_on (suc n) rows ≡ Some row → (q : Processor) → Added p row.figures row.start q → Raised rows (n + 1) q
  raised_one row is q added =
      let at = so_far.start in
      record {
        start = omega (arith, added.tick);
        count = omega (arith, added.count, so_far.count);
        stands = stands_same _ _ q (omega (arith, added.tick)) same (added.stands _ so_far.stands);
      }
    where
      same :
          (level tick : ℕ) →
          with_level (up_to n (from_zero (demands_of rows))) (count_of p) (requested row.figures.work row.figures.period row.start) level tick
          ≡ up_to (n + 1) (from_zero (demands_of rows)) level tick
      same level tick =
          let own = demand_on rows sound (suc n) row is tick in
          let counted = so_far.count in
          go (cases_eq level n) own counted
        where
          go :
              (level ≡ n) ⊎ (level ≡ n → ⊥) →
              demands_of rows (suc n) tick ≡ requested row.figures.work row.figures.period row.start tick → count_of p ≡ n →
              with_level (up_to n (from_zero (demands_of rows))) (count_of p) (requested row.figures.work row.figures.period row.start) level tick
              ≡ up_to (n + 1) (from_zero (demands_of rows)) level tick
          go (inl e) own counted =
              cond-true _ _ _ (eq-eqb level (count_of p) (omega arith)) ∙ sym own ∙ ap (λ l. demands_of rows (suc l) tick) (sym e)
              ∙ sym (cond-true _ _ _ (lt-ltb level (n + 1) (omega arith)))
          go (inr ne) own counted =
              cond-false _ _ _ (ne_eqb level (count_of p) (λ e. ne (omega arith))) ∙ grind (arith, nat_tests)

  -- there is room for one row more
  not_refused :
      (row : SheetRow) → row_on (suc n) rows ≡ Some row → n < length rows → (start : ℕ) → start ≡ row.start → not_taken p start ≡ None
  not_refused row is inside start same_start =
      let few = few_rows rows sound in
      let fair = all_on (λ r. Fair r.figures) (suc n) rows row (fair_rows rows sound) is in
      let timely = all_on (λ r. r.start < r.figures.period) (suc n) rows row (timely_rows rows sound) is in
      let at = so_far.start in
      let count = so_far.count in
      grind (arith, nat_tests)

  pub raised_more :
      (row : SheetRow) → row_on (suc n) rows ≡ Some row → n < length rows → (figures : Figures) (start : ℕ) →
      figures ≡ row.figures → start ≡ row.start → (r : Result (Unit {0}) NotTaken) (q : Processor) → result_err r ≡ not_taken p start →
      MatchResult r (λ _. Added p figures start q) (λ _. q ≡ p) → Raised rows (n + 1) q
  raised_more row is inside figures start same-figures same_start r q said added =
      raised_one row is q
      (subst (λ f. Added p f row.start q) same-figures
      (subst (λ s. Added p figures s q) same_start (go r (said ∙ not_refused row is inside start same_start) added)))
    where
      go : (r : Result (Unit {0}) NotTaken) → result_err r ≡ None → MatchResult r (λ _. Added p figures start q) (λ _. q ≡ p) → Added p figures start q
      go (Ok _) none added = added
      go (Err _) none added = absurd (let z : ◌≡◌ {A = ℕ} 0 1 = cc in omega arith)

  -- the task of a row is formed
  pub formed :
      (row : SheetRow) → row_on (suc n) rows ≡ Some row → (r : Result Task TaskFault) → (first_fault row.figures ≡ None → Fair row.figures) × (Fair row.figures → first_fault row.figures ≡ None) →
      MatchResult r (λ task. (first_fault row.figures ≡ None) × (task.figures ≡ row.figures)) (λ fault. first_fault row.figures ≡ Some fault) → is_ok r ≡ true
  formed row is r fair cases = go r cases (fair.1 (all_on (λ r. Fair r.figures) (suc n) rows row (fair_rows rows sound) is))
    where
      go :
          (r : Result Task TaskFault) →
          MatchResult r (λ task. (first_fault row.figures ≡ None) × (task.figures ≡ row.figures)) (λ fault. first_fault row.figures ≡ Some fault) →
          first_fault row.figures ≡ None → is_ok r ≡ true
      go (Ok task) cases none = refl
      go (Err fault) cases none = absurd (let z : ◌≡◌ {A = ℕ} 0 1 = cc in omega arith)

  pub all_raised : length rows ≤ n → Stands (from_zero (demands_of rows)) p
  all_raised all = stands_same _ _ p so_far.start (λ level tick. same level tick (cases_lt level n)) so_far.stands
    where
      same : (level tick : ℕ) → (level < n) ⊎ (n ≤ level) → up_to n (from_zero (demands_of rows)) level tick ≡ from_zero (demands_of rows) level tick
      same level tick (inl l) = cond-true _ _ _ (lt-ltb level n l)
      same level tick (inr l) = let none = beyond_free rows sound level (omega arith) tick in grind (arith, nat_tests)
