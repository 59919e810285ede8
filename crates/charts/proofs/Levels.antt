-- The rows of a sheet by their levels: there is exactly one row on each.
use Rattle.std.proofs.Common.{◌≡◌, ℕ, zero, suc, ◌<◌, ◌≤◌, true, cond, eqb, ◌⊎◌, List, [], ◌∷◌, length, get_or, is_some, Some, None, Option, sym, refl, ap, ◌∙◌, subst, inl, inr, arith}
use lib.ListN.{length-map}
use Rattle.std.specs.List.{AllByRecursion as All}
use Rattle.std.proofs.ByRecursion.{All-get_or}
use Rattle.std.proofs.lemmas.List.{get_or-map}
use Rattle.std.proofs.lemmas.Bool.{cases_eq, cond-true, cond-false, eq-eqb, ne_eqb, lt-ltb}
use Rattle.tasks.specs.declared.rows.Timed.{Timed}
use Rattle.timeline.specs.Processor.{sum_below}
use Rattle.timeline.specs.Requests.{requested}
use Rattle.timeline.specs.Timeline.{task_at}
use Rattle.timeline.specs.Laws.{Alone}
use Rattle.timeline.proofs.Backlog.{sum_below_same, sum_below_none}
use Rattle.timeline.proofs.Levels.{picked, single, own_is}
use Rattle.timeline.proofs.Members.{sum_exchange}
use Rattle.sheets.specs.Checks.{Sound, timed_in, levels_in}
use Rattle.sheets.specs.declared.row.SheetRow.{SheetRow}
use Rattle.charts.specs.Plans.{tasks_of, start_of, level_of, id_of, demands_of, row_on}
use Rattle.charts.proofs.Shift.{sum_first}

abbrev timed : SheetRow → Timed
timed row = record { figures = row.figures; start = row.start }

-- the place of a row
pub record At (rows : List SheetRow) (place : ℕ) (row : SheetRow) : Type 0 where
  pub inside : place < length rows
  pub id : id_of rows place ≡ row.id
  pub level : level_of rows place ≡ row.level
  pub task : task_at (tasks_of rows) place ≡ row.figures
  pub start : start_of rows place ≡ row.start

pub at_place : (rows : List SheetRow) (place : ℕ) (d : SheetRow) → place < length rows → At rows place (get_or rows place d)
at_place rows place d inside =
    record {
      inside = inside;
      id = get_or-map (λ row. row.id) rows place d 0 inside;
      level = get_or-map (λ row. row.level) rows place d 0 inside;
      task =
          get_or-map (λ (row : Timed). row.figures) (timed_in rows) place (timed d) _ (omega (arith, length-map rows timed))
          ∙ ap (λ (row : Timed). row.figures) (get_or-map timed rows place d (timed d) inside);
      start = get_or-map (λ row. row.start) rows place d 0 inside;
    }

on_level : (level : ℕ) (rows : List SheetRow) (row : SheetRow) → row_on level rows ≡ Some row → (place : ℕ) × At rows place row × (row.level ≡ level)
on_level level [] row is = absurd (grind arith)
on_level level (other ∷ rows) row is = go (cases_eq other.level level) (on_level level rows row)
  where
    go :
        (other.level ≡ level) ⊎ (other.level ≡ level → ⊥) →
        (row_on level rows ≡ Some row → (place : ℕ) × At rows place row × (row.level ≡ level)) →
        (place : ℕ) × At (other ∷ rows) place row × (row.level ≡ level)
    go (inl same) later =
        let found : Some other ≡ Some row = sym (cond-true _ _ _ (eq-eqb _ _ same)) ∙ is in
        let this : other ≡ row = cc in
        (0, record { inside = omega arith; id = ap (λ r. r.id) this; level = ap (λ r. r.level) this; task = ap (λ r. r.figures) this; start = ap (λ r. r.start) this }, ap (λ (r : SheetRow). r.level) (sym this) ∙ same)
    go (inr ne) later =
        let found = later (sym (cond-false _ _ _ (ne_eqb _ _ ne)) ∙ is) in
        let at = found.1 in
        (suc found.0, record { inside = omega (arith, at.inside); id = at.id; level = at.level; task = at.task; start = at.start }, found.2)

pub none_on : (level : ℕ) (rows : List SheetRow) → row_on level rows ≡ None → (place : ℕ) → place < length rows → level_of rows place ≡ level → ⊥
none_on level [] none place inside at = omega arith
none_on level (row ∷ rows) none place inside at = go (cases_eq row.level level) place inside at (none_on level rows)
  where
    go :
        (row.level ≡ level) ⊎ (row.level ≡ level → ⊥) → (place : ℕ) → place < length (row ∷ rows) → level_of (row ∷ rows) place ≡ level →
        (row_on level rows ≡ None → (place : ℕ) → place < length rows → level_of rows place ≡ level → ⊥) → ⊥
    go (inl same) place inside at later =
        let found : Some row ≡ None = sym (cond-true _ _ _ (eq-eqb _ _ same)) ∙ none in
        let z : ◌≡◌ {A = ℕ} 0 1 = cc in
        omega arith
    go (inr ne) zero inside at later = ne at
    go (inr ne) (suc place) inside at later = later (sym (cond-false _ _ _ (ne_eqb _ _ ne)) ∙ none) place (omega arith) at

-- what holds of each row holds of the one on a level
pub all_on :
    (P : SheetRow → Type 0) (level : ℕ) (rows : List SheetRow) (row : SheetRow) → All P rows → row_on level rows ≡ Some row → P row
all_on P level [] row all is = absurd (grind arith)
all_on P level (other ∷ rows) row all is = go (cases_eq other.level level) (all_on P level rows row all.1)
  where
    go : (other.level ≡ level) ⊎ (other.level ≡ level → ⊥) → (row_on level rows ≡ Some row → P row) → P row
    go (inl same) later =
        let found : Some other ≡ Some row = sym (cond-true _ _ _ (eq-eqb _ _ same)) ∙ is in
        let this : other ≡ row = cc in
        subst P this all.0
    go (inr ne) later = later (sym (cond-false _ _ _ (ne_eqb _ _ ne)) ∙ is)

-- sums of parts that are 0 or 1
most : (f : ℕ → ℕ) → ((i : ℕ) → f i ≤ 1) → (n : ℕ) → sum_below f n ≤ n
most f small zero = omega arith
most f small (suc n) = let ih = most f small n in let s = small n in omega arith

one_short : (f : ℕ → ℕ) → ((i : ℕ) → f i ≤ 1) → (i n : ℕ) → i < n → f i ≡ 0 → sum_below f n < n
one_short f small i zero l none = absurd (omega arith)
one_short f small i (suc n) l none = go (cases_eq i n) (one_short f small i n)
  where
    go : (i ≡ n) ⊎ (i ≡ n → ⊥) → (i < n → f i ≡ 0 → sum_below f n < n) → sum_below f (suc n) < suc n
    go (inl last) _ = let m = most f small n in let z = ap f last in omega arith
    go (inr ne) before = let b = before (omega arith) none in let s = small n in omega arith

ones : (n : ℕ) → sum_below (λ i. 1) n ≡ n
ones zero = refl
ones (suc n) = let ih = ones n in omega arith

module _ (rows : List SheetRow) (sound : Sound rows) where
  abbrev n : ℕ
  n = length rows

  pub tasks_length : length (tasks_of rows) ≡ n
  tasks_length = length-map (timed_in rows) (λ row. row.figures) ∙ length-map rows timed

  pub level_range : (place : ℕ) → place < n → (1 ≤ level_of rows place) × (level_of rows place ≤ n)
  level_range place inside =
      All-get_or (λ level. (1 ≤ level) × (level ≤ length rows)) (levels_in rows) place 0 (omega (arith, length-map rows (λ row. row.level))) sound.levels

  pub alone : (place : ℕ) → place < n → Alone (tasks_of rows) (level_of rows) place
  alone place inside other l same =
      let long = length-map rows (λ row. row.level) in
      sound.different other place (omega (arith, tasks_length)) (omega arith) same

  -- the number of rows on a level
  abbrev counted : ℕ → ℕ
  counted level = sum_below (λ place. cond (eqb (level_of rows place) level) 1 0) n

  free : (level : ℕ) → ((place : ℕ) → place < n → level_of rows place ≡ level → ⊥) → counted level ≡ 0
  free level none =
      sum_below_same _ (λ place. 0) n (λ place l. cond-false _ _ _ (ne_eqb _ _ (none place l))) ∙ sum_below_none n

  one_at_most : (level : ℕ) → counted level ≤ 1
  one_at_most level = go (row_on level rows) refl
    where
      go : (found : Option SheetRow) → row_on level rows ≡ found → counted level ≤ 1
      go None none = let z = free level (none_on level rows none) in omega arith
      go (Some row) is =
          let at = on_level level rows row is in
          let place = at.0 in
          let here : level_of rows place ≡ level = at.1.level ∙ at.2 in
          let one = single (λ p. cond (eqb (level_of rows p) level) 1 0) place n at.1.inside
          (λ p l ne. cond-false _ _ _ (ne_eqb _ _ (λ e. ne (alone place at.1.inside p (omega (arith, tasks_length)) (e ∙ sym here))))) in
          let counts : ◌≡◌ {A = ℕ} (cond (eqb (level_of rows place) level) 1 0) 1 = cond-true _ _ _ (eq-eqb _ _ here) in
          omega arith

  all_counted : sum_below counted (suc n) ≡ n
  all_counted =
      sum_exchange (λ level place. cond (eqb (level_of rows place) level) 1 0) (suc n) n
      ∙ sum_below_same _ (λ place. 1) n (λ place l. picked (level_of rows place) (suc n) 1 ∙ cond-true _ _ _ (lt-ltb (level_of rows place) (suc n) (omega (arith, level_range place l))))
      ∙ ones n

  -- no level is free, since there are as many rows as levels
  pub taken : (level : ℕ) → level < n → is_some (row_on (suc level) rows) ≡ true
  taken level inside = go (row_on (suc level) rows) refl
    where
      go : (found : Option SheetRow) → row_on (suc level) rows ≡ found → is_some found ≡ true
      go (Some row) is = refl
      go None none =
          let top = free 0 (λ place l e. omega (arith, level_range place l)) in
          let short = one_short (λ l. counted (suc l)) (λ l. one_at_most (suc l)) level n inside (free (suc level) (none_on (suc level) rows none)) in
          let first = sum_first counted n in
          let all = all_counted in
          absurd (omega arith)

  -- what a level demands is what its row does
  pub demand_on :
      (level : ℕ) (row : SheetRow) → row_on level rows ≡ Some row → (tick : ℕ) →
      demands_of rows level tick ≡ requested row.figures.work row.figures.period row.start tick
  unfolding demands_of
  demand_on level row is tick =
      let at = on_level level rows row is in
      let place = at.0 in
      let inside : place < length (tasks_of rows) = omega (arith, tasks_length, at.1.inside) in
      subst (λ l. demands_of rows l tick ≡ requested row.figures.work row.figures.period row.start tick) (at.1.level ∙ at.2)
      (own_is (tasks_of rows) (start_of rows) (level_of rows) place inside (alone place at.1.inside) tick
      ∙ ap (λ task. requested task.work task.period (start_of rows place) tick) at.1.task
      ∙ ap (λ start. requested row.figures.work row.figures.period start tick) at.1.start)

  -- a level without a row demands nothing
  no_demand : (level : ℕ) → ((place : ℕ) → place < n → level_of rows place ≡ level → ⊥) → (tick : ℕ) → demands_of rows level tick ≡ 0
  unfolding demands_of
  no_demand level none tick =
      sum_below_same _ (λ place. 0) (length (tasks_of rows))
      (λ place l. cond-false _ _ _ (ne_eqb _ _ (none place (omega (arith, tasks_length)))))
      ∙ sum_below_none (length (tasks_of rows))

  pub top_free : (tick : ℕ) → demands_of rows 0 tick ≡ 0
  top_free = no_demand 0 (λ place l e. omega (arith, level_range place l))

  pub beyond_free : (level : ℕ) → n ≤ level → (tick : ℕ) → demands_of rows (suc level) tick ≡ 0
  beyond_free level beyond = no_demand (suc level) (λ place l e. omega (arith, level_range place l))
