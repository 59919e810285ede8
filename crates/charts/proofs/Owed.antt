-- What a task owes at a deadline, and the request that is due there.
use Rattle.std.proofs.Common.{◌≡◌, ℕ, zero, suc, ◌+◌, ◌-◌, ◌*◌, ◌/◌, ◌%◌, ◌<◌, ◌≤◌, ◌⊎◌, List, [], ◌∷◌, length, get_or, Some, None, sym, ap, ◌∙◌, subst, inl, inr, div-add-mod', zero-mul, arith}
use native.Mathlib.Nat.{mul-mod_left}
use Rattle.std.proofs.ByRecursion.{All-get_or}
use Rattle.tasks.specs.Figures.{Fair}
use Rattle.tasks.specs.Rows.{Rising}
use Rattle.timeline.specs.Processor.{owing}
use Rattle.timeline.specs.Requests.{request_tick, requested}
use Rattle.timeline.specs.Timeline.{task_at, request_of, deadline_of, done_by}
use Rattle.timeline.proofs.Backlog.{sum_below_same}
use Rattle.timeline.proofs.Lateness.{come_by_due, done-owing}
use Rattle.timeline.proofs.Levels.{own_is}
use Rattle.sheets.specs.Checks.{Sound, tasks_in}
use Rattle.sheets.specs.declared.row.SheetRow.{SheetRow}
use Rattle.sheets.proofs.Held.{fair_rows}
use Rattle.charts.specs.Dues.{DueAt, LateAt}
use Rattle.charts.specs.Plans.{tasks_of, start_of, level_of, id_of, demands_of}
use Rattle.charts.proofs.Levels.{At, at_place, tasks_length, level_range, alone}

-- ids rise from place to place
ids_least : (least : ℕ) (rows : List SheetRow) → Rising least (tasks_in rows) → (place : ℕ) → place < length rows → least ≤ id_of rows place
ids_least least [] rising place inside = absurd (omega arith)
ids_least least (row ∷ rows) rising zero inside = rising.0
ids_least least (row ∷ rows) rising (suc place) inside =
    let later = ids_least (row.id + 1) rows rising.1 place (omega arith) in let here = rising.0 in omega arith

pub ids_rise :
    (least : ℕ) (rows : List SheetRow) → Rising least (tasks_in rows) → (i j : ℕ) → i < j → j < length rows → id_of rows i < id_of rows j
ids_rise least [] rising i j before inside = absurd (omega arith)
ids_rise least (row ∷ rows) rising i zero before inside = absurd (omega arith)
ids_rise least (row ∷ rows) rising zero (suc j) before inside =
    let later = ids_least (row.id + 1) rows rising.1 j (omega arith) in omega arith
ids_rise least (row ∷ rows) rising (suc i) (suc j) before inside = ids_rise (row.id + 1) rows rising.1 i j (omega arith) (omega arith)

pub level_some : (rows : List SheetRow) → Sound rows → (place : ℕ) (row : SheetRow) → At rows place row → 1 ≤ row.level
level_some rows sound place row at = omega (arith, level_range rows sound place at.inside, at.level)

-- the row at a place, read from a list that is the rows
pub row_at :
    (shown rows : List SheetRow) → shown ≡ rows → Sound rows → (place : ℕ) (d : SheetRow) → place < length rows →
    At rows place (get_or shown place d) × Fair (get_or shown place d).figures
row_at shown rows same sound place d inside =
    subst (λ (all : List SheetRow). At rows place (get_or all place d) × Fair (get_or all place d).figures) (sym same)
    (at_place rows place d inside, All-get_or (λ row. Fair row.figures) rows place d inside (fair_rows rows sound))

-- the request that is due at a tick: the deadlines are t apart from the first one on, d after their requests
module _ (row : SheetRow) (tick first t d : ℕ) (is-first : first ≡ row.start + d) (is-t : t ≡ row.figures.period) (is-d : d ≡ row.figures.deadline) where
  pub none_due : (tick < first) ⊎ ((first ≤ tick) × ((tick - first) % t ≡ 0 → ⊥)) → DueAt row tick None
  none_due (inl early) k is = omega arith
  none_due (inr (from, off)) k is =
      let m = ap (λ n. (k - 1) * n) is-t in
      let e : tick - first ≡ (k - 1) * t = omega arith in
      off (ap (λ n. n % t) e ∙ mul-mod_left (k - 1) t)

  pub one_due : first ≤ tick → (tick - first) % t ≡ 0 → DueAt row tick (Some (tick - d))
  one_due from on =
      let q = (tick - first) / t in
      let parts = div-add-mod' (tick - first) t in
      let m : (suc q - 1) * row.figures.period ≡ q * t = ap (λ n. n * row.figures.period) (let e : suc q - 1 ≡ q = omega arith in e) ∙ ap (λ n. q * n) (sym is-t) in
      (suc q, omega arith, omega arith, omega arith)

module _ (rows : List SheetRow) (sound : Sound rows) (place : ℕ) (row : SheetRow) (at : At rows place row) (fair : Fair row.figures) where
  request_is : (k : ℕ) → request_of (tasks_of rows) (start_of rows) place k ≡ request_tick row.start row.figures.period k
  request_is k =
      ap (λ start. request_tick start (task_at (tasks_of rows) place).period k) at.start
      ∙ ap (λ task. request_tick row.start task.period k) at.task

  deadline_is :
      (k : ℕ) → deadline_of (tasks_of rows) (start_of rows) place k ≡ request_tick row.start row.figures.period k + row.figures.deadline
  deadline_is k = let r = request_is k in let d = ap (λ task. task.deadline) at.task in omega arith

  pub not_due : (tick tick' : ℕ) → tick ≡ tick' → DueAt row tick None → LateAt rows place tick' None
  not_due tick tick' same none k late = none k (sym (deadline_is k) ∙ late.0 ∙ sym same)

  -- by its deadline the units of a request and of those before it have come, and are done or owed
  owed_at :
      (k : ℕ) →
      owing (demands_of rows) (deadline_of (tasks_of rows) (start_of rows) place (suc k)) (level_of rows place)
      + done_by (tasks_of rows) (start_of rows) (level_of rows) place (deadline_of (tasks_of rows) (start_of rows) place (suc k))
      ≡ suc k * (task_at (tasks_of rows) place).work
  unfolding demands_of
  owed_at k =
      let task = task_at (tasks_of rows) place in
      let due = deadline_of (tasks_of rows) (start_of rows) place (suc k) in
      let its : Fair task = subst Fair (sym at.task) fair in
      let inside : place < length (tasks_of rows) = omega (arith, tasks_length rows sound, at.inside) in
      done-owing (demands_of rows) (level_of rows place) due
      ∙ sum_below_same (demands_of rows (level_of rows place)) (requested task.work task.period (start_of rows place)) due
      (λ tick l. own_is (tasks_of rows) (start_of rows) (level_of rows) place inside (alone rows sound place at.inside) tick)
      ∙ come_by_due task.work task.period (start_of rows place) task.deadline k (omega arith) (omega arith)

  -- what the place's level owes at a tick
  module _ (tick tick' : ℕ) (is-tick : tick ≡ tick') (left : ℕ) (is-left : left ≡ owing (demands_of rows) tick' row.level) where
    owing_left : owing (demands_of rows) tick' (level_of rows place) ≡ left
    owing_left = ap (owing (demands_of rows) tick') at.level ∙ sym is-left

    pub not_owed : left ≡ 0 → LateAt rows place tick' None
    not_owed none zero late = let l = late.1 in let z = zero-mul (task_at (tasks_of rows) place).work in omega arith
    not_owed none (suc k) late =
        let l = late.1 in
        let owed = owed_at k in
        let same = ap (λ tick. owing (demands_of rows) tick (level_of rows place)) late.0 ∙ owing_left ∙ none in
        omega arith

    pub still_owed :
        (request : ℕ) → DueAt row tick (Some request) → (left ≡ 0 → ⊥) →
        LateAt rows place tick' (Some (record { id = row.id; request = request; deadline = tick }))
    still_owed request (zero, pos, is, due) owes = absurd (omega arith)
    still_owed request (suc k, pos, is, due) owes =
        let due-here : deadline_of (tasks_of rows) (start_of rows) place (suc k) ≡ tick' =
        deadline_is (suc k) ∙ ap (λ r. r + row.figures.deadline) is ∙ due ∙ is-tick in
        let owed = owed_at k in
        let same = ap (λ tick. owing (demands_of rows) tick (level_of rows place)) due-here ∙ owing_left in
        let id = sym at.id in
        let its = sym (request_is (suc k) ∙ is) in
        let deadline = is-tick ∙ sym due-here in
        (suc k, (due-here, omega arith), λ i. record { id = id i; request = its i; deadline = deadline i })
