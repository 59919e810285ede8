-- The walk along the deadlines, place by place and tick by tick.
use Rattle.std.proofs.Common.{◌≡◌, ℕ, ◌+◌, ◌<◌, ◌≤◌, true, false, ◌⊎◌, List, length, is_some, Some, None, Option, sym, ap, ◌∙◌, subst, inl, inr, arith}
use Rattle.std.proofs.lemmas.Bool.{cases_lt, cases_eq}
use Rattle.timeline.specs.Timeline.{deadline_of}
use Rattle.runner.specs.Levels.{last_tick}
use Rattle.entries.specs.declared.LateRequest.{LateRequest}
use Rattle.sheets.specs.declared.row.SheetRow.{SheetRow}
use Rattle.sheets.specs.Sheets.{rows_of}
use Rattle.sheets.specs.declared.sheet.Sheet.{Sheet}
use Rattle.sheets.proofs.Held.{few_rows}
use Rattle.sheets.proofs.Soundness.{sheet_sound}
use Rattle.charts.specs.declared.deadlines.Deadlines.{Deadlines}
use Rattle.charts.specs.Dues.{LateNow, LateAt, LateAhead, Still, Skipped, Found, NextHere}
use Rattle.charts.specs.LateRequests.{request_at, IsLate, Before, InOrder}
use Rattle.charts.specs.Plans.{tasks_of, start_of, id_of, horizon}
use Rattle.charts.specs.Walks.{Gave, Gives}
use Rattle.charts.proofs.Ordered.{same_order, none_in_order, none_only, one_more_first, only_first}
use Rattle.charts.proofs.Owed.{ids_rise}

pub skipped_on : (w w' w'' : Deadlines) → Skipped w w' → Skipped w' w'' → Skipped w w''
skipped_on w w' w'' first then =
    record {
      falls = omega (arith, first.falls, then.falls);
      still = λ e s. then.still e (first.still e s);
      back = λ e s. first.back e (then.back e s);
    }

pub found_on : (w w' w'' : Deadlines) (e : LateRequest) → Skipped w w' → Found w' e w'' → Found w e w''
found_on w w' w'' e first then =
    record {
      falls = omega (arith, first.falls, then.falls);
      here = first.back e then.here;
      others = λ other s. then.others other (first.still other s);
      after = λ other s. let after = then.after other s in (after.0, first.back other after.1);
    }

-- two requests of a place with one deadline are the same
same_request :
    (rows : List SheetRow) (place j k : ℕ) → deadline_of (tasks_of rows) (start_of rows) place j ≡ deadline_of (tasks_of rows) (start_of rows) place k →
    request_at rows place j ≡ request_at rows place k
same_request rows place j k same =
    λ i. record { id = id_of rows place; request = (let r : (request_at rows place j).request ≡ (request_at rows place k).request = omega arith in r) i; deadline = same i }

-- a place further
module _ (w : Deadlines) (here : w.place < length (rows_of w.running.sheet.now))
    (inside : w.place + 1 ≤ length (rows_of w.running.sheet.now)) (told : w.last ≡ horizon (rows_of w.running.sheet.now)) (near : w.last < last_tick) where
  abbrev rows : List SheetRow
  rows = rows_of w.running.sheet.now

  abbrev tick : ℕ
  tick = w.running.processor.tick

  abbrev pub passed : Deadlines
  passed =
      record { running = w.running; place = w.place + 1; last = w.last; inside = inside; told = told; near = near }

  back : (e : LateRequest) → Still passed e → Still w e
  back e still =
      record {
        late = still.late;
        later = elim still.later [ inl later ↦ inl later | inr now' ↦ inr (now'.0, omega (arith, now'.1)) ];
      }

  -- where a late request is: at this place and tick, or still ahead
  ahead_or_here : (e : LateRequest) → Still w e → ((k : ℕ) × LateNow rows w.place tick k × (e ≡ request_at rows w.place k)) ⊎ Still passed e
  ahead_or_here e still = go still.later (cases_eq w.place still.late.place)
    where
      go :
          (tick < e.deadline) ⊎ ((e.deadline ≡ tick) × (w.place ≤ still.late.place)) →
          (w.place ≡ still.late.place) ⊎ (w.place ≡ still.late.place → ⊥) →
          ((k : ℕ) × LateNow rows w.place tick k × (e ≡ request_at rows w.place k)) ⊎ Still passed e
      go (inl later) _ = inr (record { late = still.late; later = inl later })
      go (inr (at, le)) (inl same) =
          inl (subst (λ p. (k : ℕ) × LateNow rows p tick k × (e ≡ request_at rows p k)) (sym same)
          (still.late.k, (sym (ap (λ r. r.deadline) still.late.is) ∙ at, still.late.late), still.late.is))
      go (inr (at, le)) (inr ne) = inr (record { late = still.late; later = inr (at, omega arith) })

  skip_place : LateAt rows w.place tick None → Skipped w passed
  skip_place none =
      record {
        falls = omega arith;
        still = λ e s. elim (ahead_or_here e s) [ inl here ↦ absurd (none here.0 here.1) | inr ahead ↦ ahead ];
        back = back;
      }

  found_place : (e : LateRequest) → tick ≤ w.last → LateAt rows w.place tick (Some e) → Found w e passed
  found_place e due_now (k, late, is) =
      let few = few_rows rows (sheet_sound w.running.sheet.now) in
      let due : e.deadline ≡ tick = ap (λ r. r.deadline) is ∙ late.0 in
      record {
        falls = omega arith;
        here = record {
          late = record { place = w.place; k = k; inside = here; is = is; late = late.1; told = omega arith };
          later = inr (due, omega arith);
        };
        others = λ other s. elim (ahead_or_here other s) [
          | inl here ↦ inl (here.2 ∙ same_request rows w.place here.0 k (here.1.0 ∙ sym late.0) ∙ sym is)
          | inr ahead ↦ inr ahead
        ];
        after = λ other s. (before other s s.later due, back other s);
      }
    where
      before :
          (other : LateRequest) (s : Still passed other) →
          (tick < other.deadline) ⊎ ((other.deadline ≡ tick) × (w.place + 1 ≤ s.late.place)) → e.deadline ≡ tick → Before e other
      before other s (inl later) due = inl (omega arith)
      before other s (inr (at, le)) due =
          let mine = ap (λ r. r.id) is in
          let its = ap (λ r. r.id) s.late.is in
          inr (due ∙ sym at, omega (arith, ids_rise 1 rows (sheet_sound w.running.sheet.now).rising w.place s.late.place (omega arith) s.late.inside))

  -- the same by what was found
  pub found_here :
      (w₀ : Deadlines) → Skipped w₀ w → tick ≤ w.last → (late : Option LateRequest) → is_some late ≡ true → LateAt rows w.place tick late →
      NextHere w₀ late passed
  found_here w₀ skipped due_now (Some e) some late = found_on w₀ w passed e skipped (found_place e due_now late)
  found_here w₀ skipped due_now None some late = absurd (let z : ◌≡◌ {A = ℕ} 0 1 = cc in omega arith)

  pub skip_here : (late : Option LateRequest) → is_some late ≡ false → LateAt rows w.place tick late → Skipped w passed
  skip_here (Some e) none late = absurd (let z : ◌≡◌ {A = ℕ} 0 1 = cc in omega arith)
  skip_here None none late = skip_place late

pub gave_late : (w w' : Deadlines) (e : LateRequest) → Found w e w' → Gave LateAhead w e w'
gave_late w w' e found =
    record {
      ahead = one_more_first (Still w) (Still w') e found.here found.others found.after;
      only = only_first (Still w) (Still w') e found.here found.others found.after;
    }

-- beyond the horizon nothing lies ahead
module _ (w w' : Deadlines) (skipped : Skipped w w') (beyond : w'.last < w'.running.processor.tick) where
  none_still : (e : LateRequest) → Still w e → ⊥
  none_still e s =
      let s' = skipped.still e s in
      let told = s'.late.told in
      let last = w'.told in
      elim s'.later [ inl later ↦ omega arith | inr now' ↦ omega (arith, now'.0) ]

  pub ends : Gives LateAhead w None w'
  ends = (none_in_order (Still w) none_still, none_only (Still w) none_still)

-- from tick 0 and the first place on all late requests lie ahead
pub all_ahead :
    (w : Deadlines) (sheet : Sheet) → w.running.sheet.now ≡ sheet → w.running.processor.tick ≡ 0 → w.place ≡ 0 → (entries : List LateRequest) →
    LateAhead w entries → InOrder (IsLate (rows_of sheet)) entries
all_ahead w sheet same start first entries =
    same_order (Still w) (IsLate (rows_of sheet)) entries (λ e s. subst (λ (all : Sheet). IsLate (rows_of all) e) same s.late) (λ e late.
    record {
      late = subst (λ (all : Sheet). IsLate (rows_of all) e) (sym same) late;
      later = elim (cases_lt 0 e.deadline) [ inl later ↦ inl (omega arith) | inr none ↦ inr (omega arith, omega arith) ];
    })
