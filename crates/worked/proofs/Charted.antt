-- Who runs, computed tick by tick, and charts tested against it.
use Rattle.std.proofs.Common.{◌≡◌, ℕ, suc, ◌+◌, ◌-◌, ◌<◌, ◌≤◌, Bool, true, cond, not, ◌&&◌, eqb, ltb, leb, List, [], ◌∷◌, length, sym, refl, ap, ◌∙◌, arith}
use Rattle.std.proofs.lemmas.Bool.Decides.{nat_tests}
use Rattle.std.proofs.lemmas.Bool.{and_parts, not-true, ltb-true, leb-true, eqb-true, eqb-false, lt-ltb}
use Rattle.tasks.specs.declared.figures.Figures.{Figures}
use Rattle.timeline.specs.Processor.{sum_below, owing, ready, runs}
use Rattle.timeline.specs.Timeline.{demanded, demands}
use Rattle.timeline.proofs.Backlog.{backlog, sum_below_add, above-owing, same_demand}
use Rattle.timeline.proofs.Members.{joint}
use Rattle.timeline.proofs.Levels.{above_level}
use Rattle.entries.specs.declared.Bar.{Bar}
use Rattle.sheets.specs.declared.row.SheetRow.{SheetRow}
use Rattle.charts.specs.Plans.{tasks_of, start_of, level_of, demands_of}
use Rattle.charts.specs.Charts.{id_running, shown, IsBar, IsChart}
use Rattle.worked.proofs.Tested.{all_below, all_at, all_hold, holds, implies, implied}

module _ (tasks : List Figures) (starts levels : ℕ → ℕ) where
  -- what becomes ready at a tick on the levels above one, and all that they have at it
  abbrev comes : ℕ → ℕ → ℕ
  comes level tick = joint (λ p. ltb (levels p) level) (demanded tasks starts) (length tasks) tick

  abbrev waiting : ℕ → ℕ → ℕ
  waiting level tick = backlog (comes level) tick + comes level tick

  waiting_is : (level tick : ℕ) → sum_below (ready (demands tasks starts levels) tick) level ≡ waiting level tick
  waiting_is level tick =
      let a = sum_below_add (owing (demands tasks starts levels) tick) (λ j. demands tasks starts levels j tick) level in
      let b = above-owing (demands tasks starts levels) tick level in
      let c = same_demand 0 (λ σ. sum_below (λ j. demands tasks starts levels j σ) level) (comes level) (above_level tasks starts levels level) tick in
      let d = above_level tasks starts levels level tick in
      omega arith

  abbrev running : ℕ → ℕ → Bool
  running tick level = eqb (waiting level tick) 0 && ltb 0 (waiting (suc level) tick)

  running_is : (tick level : ℕ) → runs (demands tasks starts levels) tick level ≡ running tick level
  running_is tick level =
      let a = waiting_is level tick in
      let b = waiting_is (suc level) tick in
      plain (sum_below (ready (demands tasks starts levels) tick) level) (ready (demands tasks starts levels) tick level) (waiting level tick) (waiting (suc level) tick) a b
    where
      plain : (s r w v : ℕ) → s ≡ w → s + r ≡ v → (eqb s 0 && ltb 0 r) ≡ (eqb w 0 && ltb 0 v)
      plain s r w v e f = grind (arith, nat_tests)

  -- the id of the row whose level runs
  abbrev id_at : ℕ → List SheetRow → ℕ
  id_at tick [] = 0
  id_at tick (row ∷ rows) = cond (running tick row.level) row.id (id_at tick rows)

  id_is : (tick : ℕ) (rows : List SheetRow) → id_running (demands tasks starts levels) tick rows ≡ id_at tick rows
  id_is tick [] = refl
  id_is tick (row ∷ rows) =
      ap (λ b. cond b row.id (id_running (demands tasks starts levels) tick rows)) (running_is tick row.level)
      ∙ ap (λ id. cond (running tick row.level) row.id id) (id_is tick rows)

-- the same of a sheet
abbrev pub shown_at : List SheetRow → ℕ → ℕ
shown_at rows tick = id_at (tasks_of rows) (start_of rows) (level_of rows) tick rows

pub shown_is : (rows : List SheetRow) (tick : ℕ) → shown rows tick ≡ shown_at rows tick
unfolding shown demands_of
shown_is rows tick = id_is (tasks_of rows) (start_of rows) (level_of rows) tick rows

-- bars that cover a window one after the other, as a test
module _ (shows : ℕ → ℕ) (from to : ℕ) (bar : Bar) where
  abbrev has_id : ℕ → Bool
  has_id tick = eqb (shows tick) bar.id

  abbrev bar_tests : List Bool
  bar_tests =
      eqb bar.first from ∷ ltb 0 bar.length ∷ leb (from + bar.length) to
      ∷ all_below (λ i. has_id (from + i)) bar.length ∷ implies (ltb (from + bar.length) to) (not (has_id (from + bar.length))) ∷ []

abbrev charts : (ℕ → ℕ) → ℕ → ℕ → List Bar → Bool
charts shows from to [] = eqb from to
charts shows from to (bar ∷ bars) = all_hold (bar_tests shows from to bar) && charts shows (from + bar.length) to bars

module _ (shows computed : ℕ → ℕ) (told : (tick : ℕ) → shows tick ≡ computed tick) where
  is_bar : (from to : ℕ) (bar : Bar) → all_hold (bar_tests computed from to bar) ≡ true → IsBar shows from to bar
  is_bar from to bar test =
      record {
        first = eqb-true bar.first from (holds (bar_tests computed from to bar) test 0);
        some = ltb-true 0 bar.length (holds (bar_tests computed from to bar) test 1);
        within = leb-true (from + bar.length) to (holds (bar_tests computed from to bar) test 2);
        same = same;
        longest = longest;
      }
    where
      same : (tick : ℕ) → from ≤ tick → tick < from + bar.length → shows tick ≡ bar.id
      same tick after before =
          let e : from + (tick - from) ≡ tick = omega arith in
          let here = all_at (λ i. has_id computed from to bar (from + i)) bar.length (holds (bar_tests computed from to bar) test 3) (tick - from) (omega arith) in
          told tick ∙ ap computed (sym e) ∙ eqb-true (computed (from + (tick - from))) bar.id here

      longest : from + bar.length < to → shows (from + bar.length) ≡ bar.id → ⊥
      longest more e =
          let next = has_id computed from to bar (from + bar.length) in
          let other = implied (ltb (from + bar.length) to) (not next) (holds (bar_tests computed from to bar) test 4) (lt-ltb (from + bar.length) to more) in
          eqb-false (computed (from + bar.length)) bar.id (not-true next other) (sym (told (from + bar.length)) ∙ e)

  pub is_chart : (from to : ℕ) (bars : List Bar) → charts computed from to bars ≡ true → IsChart shows from to bars
  is_chart from to [] test = eqb-true from to test
  is_chart from to (bar ∷ bars) test =
      let a = and_parts (all_hold (bar_tests computed from to bar)) (charts computed (from + bar.length) to bars) test in
      (is_bar from to bar a.0, is_chart (from + bar.length) to bars a.1)
