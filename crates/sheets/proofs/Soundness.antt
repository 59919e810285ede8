-- Rows have no fault exactly where they are sound.
use Rattle.std.proofs.Common.{◌≡◌, ℕ, ◌+◌, ◌-◌, ◌<◌, ◌≤◌, Bool, true, false, eqb, ltb, leb, List, [], ◌∷◌, ◌++◌, map, length, get_or, is_some, Some, None, Decides, Option, sym, refl, ap, ◌∙◌, subst, ap₂, inl, inr, append_assoc, arith, length-append}
use lib.ListN.{length-map}
use Rattle.std.specs.Option.{option_map, option_or}
use Rattle.std.specs.Bool.{then_some}
use Rattle.std.specs.List.{HoldsAt, AllByRecursion as All}
use Rattle.std.proofs.ByRecursion.{All-map}
use Rattle.std.proofs.lemmas.List.{append-nil, map_push, map-append, length_push, get_or_push, get_or_append_left, get_or_at, get_or_default}
use Rattle.std.proofs.lemmas.Bool.{both_ways, cases_lt}
use Rattle.std.proofs.lemmas.Bool.Decides.{nat_tests, Decides-by_or, Decides-eqb}
use Rattle.periods.specs.Multiples.{most_tasks, longest_common_period}
use Rattle.tasks.specs.Figures.{Fair, first_fault}
use Rattle.tasks.specs.Rows.{Rising}
use Rattle.tasks.specs.declared.rows.Timed.{Timed}
use Rattle.tasks.proofs.Faults.{fair_from_none, none_from_fair}
use Rattle.sheets.specs.Checks.{Sound, Different, ids_in, levels_in, tasks_in, last_id, is_in, id_fault, figures_fault, start_fault, level_fault, first_wrong, entries_fault, count_fault, period_fault, rows_fault}
use Rattle.sheets.specs.declared.fault.EntryFault.TheVariants.{UnsortedId, Figures as UnfairFigures, LateStart}
use Rattle.sheets.specs.declared.fault.SheetFault.{SheetFault}
use Rattle.sheets.specs.declared.fault.SheetFault.TheVariants.{WrongCount, Entry, LongCommonPeriod}
use Rattle.sheets.specs.declared.fault.WrongEntry.{WrongEntry}
use Rattle.sheets.specs.Sheets.{rows_of}
use Rattle.sheets.specs.declared.row.SheetRow.{SheetRow}
use Rattle.sheets.specs.declared.sheet.Sheet.{Sheet}
use Rattle.sheets.proofs.Entries.{none_parts, none_from_parts, all_from_none, none_from_all}

-- a test that finds no fault
passes : {F : Type 0} (test : Bool) (fault : F) → then_some test fault ≡ None → test ≡ false
passes test fault none = grind arith

-- ids
last_id_push : (earlier : List SheetRow) (row : SheetRow) → last_id (earlier ++ row ∷ []) ≡ row.id
last_id_push earlier row =
    rw (map_push (λ r. r.id) earlier row, length_push earlier row)
    (get_or_push (ids_in earlier) row.id 0 (length earlier + 1 - 1) (length-map earlier (λ r. r.id) ∙ omega arith))

rising_from_none :
    (earlier rows : List SheetRow) → first_wrong id_fault earlier rows ≡ None →
    Rising (last_id earlier + 1) (tasks_in rows)
rising_from_none earlier [] none = tt
rising_from_none earlier (row ∷ rows) none =
    let parts = none_parts id_fault earlier row rows none in
    let above : leb row.id (last_id earlier) ≡ false = passes _ UnsortedId parts.0 in
    let later = rising_from_none (earlier ++ row ∷ []) rows parts.1 in
    (grind (arith, nat_tests), subst (λ (id : ℕ). Rising (id + 1) (tasks_in rows)) (last_id_push earlier row) later)

none_from_rising :
    (earlier rows : List SheetRow) → Rising (last_id earlier + 1) (tasks_in rows) →
    first_wrong id_fault earlier rows ≡ None
none_from_rising earlier [] rising = refl
none_from_rising earlier (row ∷ rows) rising =
    let above = rising.0 in
    let later = subst (λ (id : ℕ). Rising (id + 1) (tasks_in rows)) (sym (last_id_push earlier row)) rising.1 in
    none_from_parts id_fault earlier row rows (grind (arith, nat_tests)) (none_from_rising (earlier ++ row ∷ []) rows later)

-- levels
in_places_lem : (number : ℕ) (numbers : List ℕ) → Decides (is_in number numbers) ((k : ℕ) × (k < length numbers) × HoldsAt (λ other. number ≡ other) numbers k)
in_places_lem number =
    Decides-by_or (eqb number) (λ other. number ≡ other) (is_in number) (Decides-eqb number) refl (λ _ _. refl)

absent : (number : ℕ) (numbers : List ℕ) (k : ℕ) → is_in number numbers ≡ false → k < length numbers → get_or numbers k 0 ≡ number → ⊥
absent number numbers k fresh inside here =
    both_ways (is_in number numbers) fresh
    ((in_places_lem number numbers).1 (k, inside, λ d. sym here ∙ get_or_default numbers k 0 d inside))

different_push : (numbers : List ℕ) (number : ℕ) → Different numbers → is_in number numbers ≡ false → Different (numbers ++ number ∷ [])
different_push numbers number different fresh i j within-i within-j same =
    let long = length_push numbers number in
    let before : (k : ℕ) → k < length numbers → get_or (numbers ++ number ∷ []) k 0 ≡ get_or numbers k 0 =
    λ k. get_or_append_left numbers (number ∷ []) 0 k in
    let last : (k : ℕ) → length numbers ≡ k → get_or (numbers ++ number ∷ []) k 0 ≡ number =
    get_or_push numbers number 0 in
    elim (cases_lt i (length numbers)) [
      | inl low-i ↦
          elim (cases_lt j (length numbers)) [
            | inl low-j ↦ different i j low-i low-j (sym (before i low-i) ∙ same ∙ before j low-j)
            | inr high-j ↦ absurd (absent number numbers i fresh low-i (sym (before i low-i) ∙ same ∙ last j (omega arith)))
          ]
      | inr high-i ↦
          elim (cases_lt j (length numbers)) [
            | inl low-j ↦ absurd (absent number numbers j fresh low-j (sym (before j low-j) ∙ sym same ∙ last i (omega arith)))
            | inr high-j ↦ omega arith
          ]
    ]

different_middle : (numbers : List ℕ) (number : ℕ) (more : List ℕ) → Different (numbers ++ number ∷ more) → is_in number numbers ≡ false
different_middle numbers number more different = go (is_in number numbers) refl
  where
    go : (test : Bool) → is_in number numbers ≡ test → test ≡ false
    go false is = refl
    go true is =
        let place = (in_places_lem number numbers).0 is in
        let long = length-append numbers (number ∷ more) in
        let same =
        get_or_append_left numbers (number ∷ more) 0 place.0 place.1 ∙ sym (place.2 0)
        ∙ sym (get_or_at numbers number more 0 (length numbers) refl) in
        absurd (omega (arith, different place.0 (length numbers) (omega (arith, place.1)) (omega arith) same, place.1))

-- a level from 1 to the number of entries
abbrev InRange : ℕ → ℕ → Type 0
InRange count level = (1 ≤ level) × (level ≤ count)

module _ (count : ℕ) where
  range_from_none : (earlier : List SheetRow) (row : SheetRow) → level_fault count earlier row ≡ None → InRange count row.level
  range_from_none earlier row none = (grind (arith, nat_tests), grind (arith, nat_tests))

  fresh_from_none : (earlier : List SheetRow) (row : SheetRow) → level_fault count earlier row ≡ None → is_in row.level (levels_in earlier) ≡ false
  fresh_from_none earlier row none = grind (arith, nat_tests)

  right_level :
      (earlier : List SheetRow) (row : SheetRow) → InRange count row.level → is_in row.level (levels_in earlier) ≡ false →
      level_fault count earlier row ≡ None
  right_level earlier row range fresh = grind (arith, nat_tests)

  different_from_none :
      (earlier rows : List SheetRow) → Different (levels_in earlier) → first_wrong (level_fault count) earlier rows ≡ None →
      Different (levels_in (earlier ++ rows))
  different_from_none earlier [] different none =
      subst (λ (all : List SheetRow). Different (levels_in all)) (sym (append-nil earlier)) different
  different_from_none earlier (row ∷ rows) different none =
      let parts = none_parts (level_fault count) earlier row rows none in
      let more = different_push (levels_in earlier) row.level different (fresh_from_none earlier row parts.0) in
      subst (λ (all : List SheetRow). Different (levels_in all)) (append_assoc earlier (row ∷ []) rows)
      (different_from_none (earlier ++ row ∷ []) rows (subst Different (sym (map_push (λ r. r.level) earlier row)) more) parts.1)

  none_from_different :
      (earlier rows : List SheetRow) → All (λ row. InRange count row.level) rows → Different (levels_in (earlier ++ rows)) →
      first_wrong (level_fault count) earlier rows ≡ None
  none_from_different earlier [] range different = refl
  none_from_different earlier (row ∷ rows) range different =
      let fresh =
      different_middle (levels_in earlier) row.level (levels_in rows)
      (subst Different (map-append (λ (r : SheetRow). r.level) earlier (row ∷ rows)) different) in
      none_from_parts (level_fault count) earlier row rows (right_level earlier row range.0 fresh)
      (none_from_different (earlier ++ row ∷ []) rows range.1
      (subst (λ (all : List SheetRow). Different (levels_in all)) (sym (append_assoc earlier (row ∷ []) rows)) different))

-- figures and starts
fair_right : (row : SheetRow) → option_map UnfairFigures (first_fault row.figures) ≡ None → Fair row.figures
fair_right row none = fair_from_none row.figures (grind arith)

right_fair : (row : SheetRow) → Fair row.figures → option_map UnfairFigures (first_fault row.figures) ≡ None
right_fair row fair = ap (option_map UnfairFigures) (none_from_fair row.figures fair)

timely_right : (row : SheetRow) → then_some (leb row.figures.period row.start) LateStart ≡ None → row.start < row.figures.period
timely_right row none = grind (arith, nat_tests)

right_timely : (row : SheetRow) → row.start < row.figures.period → then_some (leb row.figures.period row.start) LateStart ≡ None
right_timely row timely = grind (arith, nat_tests)

pub fair_from_passed : (rows : List SheetRow) → first_wrong (λ _. figures_fault) [] rows ≡ None → All (λ row. Fair row.figures) rows
fair_from_passed rows none =
    all_from_none (λ _. figures_fault) (λ row. Fair row.figures) (λ earlier. fair_right) [] rows none

all_unmap : {X Y : Type 0} (P : Y → Type 0) (f : X → Y) (xs : List X) → All P (map f xs) → All (λ x. P (f x)) xs
all_unmap P f [] all = tt
all_unmap P f (x ∷ xs) all = (all.0, all_unmap P f xs all.1)

-- nothing is wrong only where each part finds nothing
count_right : (count : ℕ) → count_fault count ≡ None → (1 ≤ count) × (count ≤ most_tasks)
count_right count none = (grind (arith, nat_tests), grind (arith, nat_tests))

right_count : (count : ℕ) → 1 ≤ count → count ≤ most_tasks → count_fault count ≡ None
right_count count some few = grind (arith, nat_tests)

-- a number of rows that is tested not to be 0
pub some_counted : (count : ℕ) → false ≡ eqb count 0 → 1 ≤ count
some_counted count test = grind (arith, nat_tests)

pub few_counted : (count : ℕ) → false ≡ eqb count 0 → count ≤ most_tasks → None ≡ count_fault count
few_counted count test few = sym (right_count count (some_counted count test) few)

pub entry_parts :
    (ids figures starts levels : Option WrongEntry) → option_or ids (option_or figures (option_or starts levels)) ≡ None →
    (ids ≡ None) × (figures ≡ None) × (starts ≡ None) × (levels ≡ None)
entry_parts ids figures starts levels none = (grind arith, grind arith, grind arith, grind arith)

sheet_parts :
    (count : Option SheetFault) (entries : Option WrongEntry) (period : Option SheetFault) →
    option_or count (option_or (option_map Entry entries) period) ≡ None → (count ≡ None) × (entries ≡ None) × (period ≡ None)
sheet_parts count entries period none = (grind arith, grind arith, grind arith)

short_right : (ticks : ℕ) → then_some (ltb longest_common_period ticks) LongCommonPeriod ≡ None → ticks ≤ longest_common_period
short_right ticks none = grind (arith, nat_tests)

right_short : (ticks : ℕ) → ticks ≤ longest_common_period → then_some (ltb longest_common_period ticks) LongCommonPeriod ≡ None
right_short ticks short = grind (arith, nat_tests)

-- which fault is said: that of the number of rows, else that of an entry, else that of the common period
module _ (rows : List SheetRow) where
  pub entry_said :
      (wrong : WrongEntry) → None ≡ count_fault (length rows) → Some wrong ≡ entries_fault rows → Some (Entry wrong) ≡ rows_fault rows
  unfolding rows_fault
  entry_said wrong few is = ap₂ (λ count found. option_or count (option_or (option_map Entry found) (period_fault rows))) few is

  pub period_said : None ≡ count_fault (length rows) → None ≡ entries_fault rows → period_fault rows ≡ rows_fault rows
  unfolding rows_fault
  period_said few right = ap₂ (λ count found. option_or count (option_or (option_map Entry found) (period_fault rows))) few right

timed : SheetRow → Timed
timed row = record { figures = row.figures; start = row.start }

pub sound_from_none : (rows : List SheetRow) → rows_fault rows ≡ None → Sound rows
unfolding rows_fault timed
sound_from_none rows none =
    let count = length rows in
    let parts = sheet_parts (count_fault count) (entries_fault rows) (period_fault rows) none in
    let entries = entry_parts (first_wrong id_fault [] rows) (first_wrong (λ _. figures_fault) [] rows) (first_wrong (λ _. start_fault) [] rows) (first_wrong (level_fault count) [] rows) parts.1 in
    let range = count_right count parts.0 in
    let long = length-map rows timed in
    record {
      rising = rising_from_none [] rows entries.0;
      case = record {
        some = omega (arith, range.0, long);
        few = omega (arith, range.1, long);
        fair = All-map (λ row. Fair row.figures) timed rows (fair_from_passed rows entries.1);
        timely =
            All-map (λ row. row.start < row.figures.period) timed rows
            (all_from_none (λ _. start_fault) (λ row. row.start < row.figures.period) (λ earlier. timely_right) [] rows entries.2);
        short = short_right _ parts.2;
      };
      levels =
          All-map (InRange count) (λ row. row.level) rows
          (all_from_none (level_fault count) (λ row. InRange count row.level) (range_from_none count) [] rows entries.3);
      different = different_from_none count [] rows (λ i j within. absurd (omega arith)) entries.3;
    }

pub none_from_sound : (rows : List SheetRow) → Sound rows → rows_fault rows ≡ None
unfolding rows_fault timed
none_from_sound rows sound =
    let count = length rows in
    let case = sound.case in
    let long = length-map rows timed in
    rw (
      right_count count (omega (arith, case.some, long)) (omega (arith, case.few, long)),
      none_from_rising [] rows sound.rising,
      none_from_all (λ _. figures_fault) (λ row. Fair row.figures) (λ earlier. right_fair) [] rows
          (all_unmap (λ row. Fair row.figures) timed rows case.fair),
      none_from_all (λ _. start_fault) (λ row. row.start < row.figures.period) (λ earlier. right_timely) [] rows
          (all_unmap (λ row. row.start < row.figures.period) timed rows case.timely),
      none_from_different count [] rows (all_unmap (InRange count) (λ row. row.level) rows sound.levels) sound.different,
      right_short _ case.short,
    )

-- no row, and more rows than a sheet holds
module _ (rows : List SheetRow) where
  count_said : count_fault (length rows) ≡ Some WrongCount → rows_fault rows ≡ Some WrongCount
  unfolding rows_fault
  count_said is = ap (λ found. option_or found (option_or (option_map Entry (entries_fault rows)) (period_fault rows))) is

  pub none_said : true ≡ eqb (length rows) 0 → Some WrongCount ≡ rows_fault rows
  none_said none = sym (count_said (grind (arith, nat_tests)))

  pub many_said : most_tasks < length rows → rows_fault rows ≡ Some WrongCount
  many_said many = count_said (grind (arith, nat_tests))

pub sound_from_test : (rows : List SheetRow) → is_some (rows_fault rows) ≡ false → Sound rows
sound_from_test rows test = sound_from_none rows (grind arith)

-- what a sheet holds is sound
pub sheet_sound : (sheet : Sheet) → Sound (rows_of sheet)
sheet_sound sheet = sound_from_test (rows_of sheet) sheet.sound

pub count_from_sound : (rows : List SheetRow) → Sound rows → (1 ≤ length rows) × (length rows ≤ most_tasks)
unfolding timed
count_from_sound rows sound =
    let long = length-map rows timed in (omega (arith, sound.case.some), omega (arith, sound.case.few))
