-- The bytes of rows, and the rows of bytes: each undoes the other.
use Rattle.std.proofs.Common.{◌≡◌, ℕ, zero, suc, ◌+◌, ◌-◌, ◌*◌, ◌/◌, ◌%◌, ◌<◌, ◌≤◌, ltb, List, [], ◌∷◌, ◌++◌, length, take, drop, Some, None, Ok, Err, Result, sym, refl, ap, ◌∙◌, subst, ap₂, append_assoc, arith, length-append}
use Rattle.std.specs.Option.{option_or}
use Rattle.std.specs.List.{flat_map, AllByRecursion as All}
use Rattle.std.proofs.ByRecursion.{All-take, All-drop}
use Rattle.std.proofs.lemmas.List.{take-append-drop, take_at, drop_at, drop-drop, length-drop, length-take-le, nil_from_length, take_rest}
use Rattle.std.proofs.lemmas.Bool.{le-ltb, lt-ltb}
use Rattle.std.proofs.lemmas.Bool.Decides.{nat_tests}
use borrow.Rule.Slice.PartMut.{put_mid}
use Rattle.refusals.specs.Answers.{answer, refuse_if}
use Rattle.refusals.specs.declared.Refusal.{Refusal}
use Rattle.refusals.specs.declared.Refusal.TheVariants.{ListTooShort}
use Rattle.periods.specs.Multiples.{most_tasks}
use Rattle.tasks.specs.Figures.{Fair}
use Rattle.sheets.specs.Bytes.{two_bytes, sheet_length, task_entry, plan_entry, encoded, row_in, rows_in, entries_in, header_fault, sheet_fault, RightHeader}
use Rattle.sheets.specs.Checks.{Sound, timed_in, rows_fault}
use Rattle.sheets.specs.Sheets.{Gives, ReadsEncoded, ReadsBack, ShowsEarly, overwritten}
use Rattle.sheets.specs.declared.fault.SheetFault.{SheetFault}
use Rattle.sheets.specs.declared.row.SheetRow.{SheetRow}
use Rattle.sheets.specs.declared.sheet.Sheet.{Sheet}
use Rattle.sheets.proofs.Long.{shows_early}
use Rattle.sheets.proofs.Soundness.{sound_from_none, none_from_sound, count_from_sound}

-- a number in two bytes
number_of_bytes : (number : ℕ) → number < 65536 → number / 256 % 256 * 256 + number % 256 ≡ number
number_of_bytes number small = omega arith

-- entries of one size
module _ (entry : SheetRow → List ℕ) where
  length_joined :
      (size : ℕ) → ((row : SheetRow) → length (entry row) ≡ size) → (rows : List SheetRow) →
      length (flat_map entry rows) ≡ size * length rows
  length_joined size sized [] = omega arith
  length_joined size sized (row ∷ rows) =
      length-append (entry row) (flat_map entry rows) ∙ omega (arith, sized row, length_joined size sized rows)

length_tasks : (rows : List SheetRow) → length (flat_map task_entry rows) ≡ 7 * length rows
length_tasks = length_joined task_entry 7 (λ row. refl)

length_plans : (rows : List SheetRow) → length (flat_map plan_entry rows) ≡ 3 * length rows
length_plans = length_joined plan_entry 3 (λ row. refl)

length-rows_in : (count : ℕ) (tasks plans : List ℕ) → length (rows_in count tasks plans) ≡ count
length-rows_in zero tasks plans = refl
length-rows_in (suc count) tasks plans = ap suc (length-rows_in count (drop 7 tasks) (drop 3 plans))

-- one row more is read
pub read_more :
    (made next : List SheetRow) (tasks plans : List ℕ) (all : List SheetRow) → 7 ≤ length tasks → next ≡ made ++ row_in tasks plans ∷ [] →
    made ++ rows_in (length tasks / 7) tasks plans ≡ all → next ++ rows_in (length (drop 7 tasks) / 7) (drop 7 tasks) (drop 3 plans) ≡ all
read_more made next tasks plans all long is before =
    let left : length tasks / 7 ≡ suc (length (drop 7 tasks) / 7) = omega (arith, length-drop 7 tasks) in
    rw is (append_assoc made _ _ ∙ ap (λ n. made ++ rows_in n tasks plans) (sym left) ∙ before)

-- those made and those to come are as many as all
pub rows_left :
    (made : List SheetRow) (count : ℕ) (tasks plans : List ℕ) (all : ℕ) (all-tasks all-plans : List ℕ) →
    made ++ rows_in count tasks plans ≡ rows_in all all-tasks all-plans → length made + count ≡ all
rows_left made count tasks plans all all-tasks all-plans same =
    omega (
      arith,
      length-append made (rows_in count tasks plans),
      length-rows_in count tasks plans,
      ap length same,
      length-rows_in all all-tasks all-plans,
    )

-- the numbers of a row fit their two bytes
record Fits (row : SheetRow) : Type 0 where
  work : row.figures.work < 65536
  period : row.figures.period < 65536
  deadline : row.figures.deadline < 65536
  start : row.start < 65536

same_row : (row : SheetRow) (tasks plans : List ℕ) → Fits row → row_in (task_entry row ++ tasks) (plan_entry row ++ plans) ≡ row
same_row row tasks plans fits =
    rw (
      number_of_bytes row.figures.work fits.work,
      number_of_bytes row.figures.period fits.period,
      number_of_bytes row.figures.deadline fits.deadline,
      number_of_bytes row.start fits.start,
    )

rows_in_joined : (rows : List SheetRow) → All Fits rows → rows_in (length rows) (flat_map task_entry rows) (flat_map plan_entry rows) ≡ rows
rows_in_joined [] fits = refl
rows_in_joined (row ∷ rows) fits =
    ap₂ ◌∷◌ (same_row row (flat_map task_entry rows) (flat_map plan_entry rows) fits.0) (rows_in_joined rows fits.1)

entries_in-encoded : (rows : List SheetRow) → length rows ≤ most_tasks → All Fits rows → entries_in (encoded rows) ≡ rows
unfolding entries_in
entries_in-encoded rows few fits =
    let tasks = flat_map task_entry rows in
    let plans = flat_map plan_entry rows in
    rw (
      number_of_bytes (length rows) (omega arith),
      take_at tasks plans (7 * length rows) (length_tasks rows),
      drop_at tasks plans (7 * length rows) (length_tasks rows),
    )
    (rows_in_joined rows fits)

-- bytes are below 256
abbrev pub Small : List ℕ → Type 0
Small bytes = All (λ byte. byte < 256) bytes

high : (h l : ℕ) → h < 256 → l < 256 → (h * 256 + l) / 256 % 256 ≡ h
high h l small-h small-l = omega arith

low : (h l : ℕ) → l < 256 → (h * 256 + l) % 256 ≡ l
low h l small-l = omega arith

two : (h l : ℕ) → h < 256 → l < 256 → two_bytes (h * 256 + l) ≡ h ∷ l ∷ []
two h l small-h small-l = ap₂ (λ a b. a ∷ b ∷ []) (high h l small-h small-l) (low h l small-l)

-- the first entry of each kind
first_task : (tasks plans : List ℕ) → Small tasks → 7 ≤ length tasks → task_entry (row_in tasks plans) ++ drop 7 tasks ≡ tasks
first_task (id ∷ w1 ∷ w0 ∷ p1 ∷ p0 ∷ d1 ∷ d0 ∷ rest) plans (_, (w1s, (w0s, (p1s, (p0s, (d1s, (d0s, _))))))) long =
    ap (λ bytes. id ∷ bytes ++ rest)
    (ap₂ ◌++◌ (ap₂ ◌++◌ (two w1 w0 w1s w0s) (two p1 p0 p1s p0s)) (two d1 d0 d1s d0s))
first_task [] plans small long = absurd (omega arith)
first_task (a ∷ []) plans small long = absurd (omega arith)
first_task (a ∷ b ∷ []) plans small long = absurd (omega arith)
first_task (a ∷ b ∷ c ∷ []) plans small long = absurd (omega arith)
first_task (a ∷ b ∷ c ∷ d ∷ []) plans small long = absurd (omega arith)
first_task (a ∷ b ∷ c ∷ d ∷ e ∷ []) plans small long = absurd (omega arith)
first_task (a ∷ b ∷ c ∷ d ∷ e ∷ f ∷ []) plans small long = absurd (omega arith)

first_plan : (tasks plans : List ℕ) → Small plans → 3 ≤ length plans → plan_entry (row_in tasks plans) ++ drop 3 plans ≡ plans
first_plan tasks (s1 ∷ s0 ∷ level ∷ rest) small long = ap (λ bytes. bytes ++ level ∷ rest) (two s1 s0 small.0 small.1.0)
first_plan tasks [] small long = absurd (omega arith)
first_plan tasks (a ∷ []) small long = absurd (omega arith)
first_plan tasks (a ∷ b ∷ []) small long = absurd (omega arith)

joined_rows_in :
    (count : ℕ) (tasks plans : List ℕ) → Small tasks → Small plans → length tasks ≡ 7 * count → length plans ≡ 3 * count →
    (flat_map task_entry (rows_in count tasks plans) ≡ tasks) × (flat_map plan_entry (rows_in count tasks plans) ≡ plans)
joined_rows_in zero tasks plans small-tasks small-plans long-tasks long-plans =
    (sym (nil_from_length tasks (omega arith)), sym (nil_from_length plans (omega arith)))
joined_rows_in (suc count) tasks plans small-tasks small-plans long-tasks long-plans =
    let rest =
    joined_rows_in count (drop 7 tasks) (drop 3 plans)
    (All-drop _ 7 tasks small-tasks) (All-drop _ 3 plans small-plans)
    (length-drop 7 tasks ∙ omega arith) (length-drop 3 plans ∙ omega arith) in (
      ap (λ more. task_entry (row_in tasks plans) ++ more) rest.0 ∙ first_task tasks plans small-tasks (omega arith),
      ap (λ more. plan_entry (row_in tasks plans) ++ more) rest.1 ∙ first_plan tasks plans small-plans (omega arith),
    )

-- the header of a sheet
header_parts :
    (a b c d : ℕ) (rest : List ℕ) → header_fault (a ∷ b ∷ c ∷ d ∷ rest) ≡ None →
    (c * 256 + d ≡ sheet_length (a * 256 + b)) × (length rest ≡ 10 * (a * 256 + b))
header_parts a b c d rest right = (grind (arith, nat_tests), grind (arith, nat_tests))

encoded-entries_in : (bytes : List ℕ) → Small bytes → header_fault bytes ≡ None → encoded (entries_in bytes) ≡ bytes
unfolding entries_in
encoded-entries_in (a ∷ b ∷ c ∷ d ∷ rest) (a_small, (b-small, (c-small, (d_small, small)))) right =
    let count = a * 256 + b in
    let tasks = take (7 * count) rest in
    let plans = drop (7 * count) rest in
    let parts = header_parts a b c d rest right in
    let many = length-rows_in count tasks plans in
    let back =
    joined_rows_in count tasks plans (All-take _ (7 * count) rest small) (All-drop _ (7 * count) rest small)
    (length-take-le (7 * count) rest (omega (arith, parts.1))) (length-drop (7 * count) rest ∙ omega (arith, parts.1)) in
    ap₂ ◌++◌
    (ap₂ ◌++◌
    (ap two_bytes many ∙ two a b a_small b-small)
    (ap (λ n. two_bytes (sheet_length n)) many ∙ ap two_bytes (sym parts.0) ∙ two c d c-small d_small))
    (ap₂ ◌++◌ back.0 back.1 ∙ take-append-drop (7 * count) rest)
encoded-entries_in [] small right = absurd (grind arith)
encoded-entries_in (a ∷ []) small right = absurd (grind arith)
encoded-entries_in (a ∷ b ∷ []) small right = absurd (grind arith)
encoded-entries_in (a ∷ b ∷ c ∷ []) small right = absurd (grind arith)

header_encoded : (rows : List SheetRow) → 1 ≤ length rows → length rows ≤ most_tasks → header_fault (encoded rows) ≡ None
header_encoded rows some few =
    let tasks = length_tasks rows in
    let plans = length_plans rows in
    let long = length-append (flat_map task_entry rows) (flat_map plan_entry rows) in
    rw (number_of_bytes (length rows) (omega arith), number_of_bytes (sheet_length (length rows)) (omega arith))
    (grind (arith, nat_tests))

-- sound rows fit their bytes
fits_from_sound :
    (rows : List SheetRow) → All (λ task. Fair task.figures) (timed_in rows) → All (λ task. task.start < task.figures.period) (timed_in rows) →
    All Fits rows
fits_from_sound [] fair timely = tt
fits_from_sound (row ∷ rows) fair timely =
    let figures = fair.0 in
    let start = timely.0 in (
      record { work = omega arith; period = omega arith; deadline = omega arith; start = omega arith },
      fits_from_sound rows fair.1 timely.1,
    )

-- what is written is read again
pub reads_back : (rows : List SheetRow) → Sound rows → ReadsBack rows
reads_back rows sound =
    let count = count_from_sound rows sound in
    let same = entries_in-encoded rows count.1 (fits_from_sound rows sound.case.fair sound.case.timely) in
    (ap₂ option_or (header_encoded rows count.0 count.1) (ap rows_fault same ∙ none_from_sound rows sound), same)

-- the bytes after a right header: the task entries, and then the plan entries
module _ (bytes tasks plans : List ℕ) (count : ℕ) (header : RightHeader bytes count)
    (is-tasks : tasks ≡ take (7 * count) (take (length bytes - 4) (drop 4 bytes)))
    (is-plans : plans ≡ drop (7 * count) (take (length bytes - 4) (drop 4 bytes))) where
  rest_long : length (take (length bytes - 4) (drop 4 bytes)) ≡ 10 * count
  rest_long = rw (take_rest bytes 4) (omega (arith, length-drop 4 bytes, header.long))

  many_tasks : length tasks / 7 ≡ count
  many_tasks = omega (arith, ap length is-tasks, length-take-le (7 * count) (take (length bytes - 4) (drop 4 bytes)) (omega (arith, rest_long)))

  -- their rows are those that the sheet tells
  pub rows_told : (rows : List SheetRow) → rows ≡ rows_in (length tasks / 7) tasks plans → rows ≡ entries_in bytes
  unfolding entries_in
  rows_told rows is =
      let after = take_rest bytes 4 in
      is
      ∙ ap (λ n. rows_in n tasks plans) many_tasks
      ∙ ap₂ (rows_in count) (is-tasks ∙ ap (take (7 * count)) after) (is-plans ∙ ap (drop (7 * count)) after)
      ∙ ap (λ n. rows_in n (take (7 * n) (drop 4 bytes)) (drop (7 * n) (drop 4 bytes))) (sym header.told)

-- what is read
module _ (bytes : List ℕ) where
  abbrev pub Read : Result Sheet SheetFault → Type 0
  Read r = record { value : Gives (sheet_fault bytes) (entries_in bytes) r; format : ReadsEncoded bytes r; early : ShowsEarly bytes }

  refused : (fault : SheetFault) → sheet_fault bytes ≡ Some fault → Read (Err fault)
  refused fault is = record {
    value = is;
    format = λ rows sound same.
        let none = ap sheet_fault same ∙ (reads_back rows sound).0 in absurd (grind arith);
    early = shows_early bytes;
  }

  pub read_no_header : (fault : SheetFault) → header_fault bytes ≡ Some fault → Read (Err fault)
  read_no_header fault is = refused fault (ap (λ found. option_or found (rows_fault (entries_in bytes))) is)

  pub read_rows :
      (rows : List SheetRow) (r : Result Sheet SheetFault) → Small bytes → header_fault bytes ≡ None → rows ≡ entries_in bytes →
      Gives (rows_fault rows) rows r → Read r
  read_rows rows r small right is = go r
    where
      said : sheet_fault bytes ≡ rows_fault rows
      said = ap₂ option_or right (ap rows_fault (sym is))

      go : (r : Result Sheet SheetFault) → Gives (rows_fault rows) rows r → Read r
      go (Ok sheet) (none, same) = record {
        value = (said ∙ none, same ∙ is);
        format = (
          subst Sound (sym same) (sound_from_none rows none),
          sym (encoded-entries_in bytes small right) ∙ ap encoded (sym (same ∙ is)),
        );
        early = shows_early bytes;
      }
      go (Err fault) is-fault = refused fault (said ∙ is-fault)

-- what is written
abbrev pub Written : List SheetRow → List ℕ → List ℕ → Result ℕ Refusal → Type 0
Written rows before after r =
    let length-needed = sheet_length (length rows) in
    record {
      value : r ≡ answer (refuse_if (ltb (length before) length-needed) ListTooShort) length-needed;
      after : after ≡ overwritten rows before;
      back : ReadsBack rows;
    }

put_mid_at :
    (front rest ys : List ℕ) (from k : ℕ) → length front ≡ from → put_mid from k (front ++ rest) ys ≡ (front ++ ys) ++ drop k rest
put_mid_at front rest ys from k long =
    rw (take_at front rest from long, drop_at front rest from long) (sym (append_assoc front ys (drop k rest)))

-- the rows that are written are those that the sheet holds
module _ (rows held : List SheetRow) (same : rows ≡ held) (sound : Sound rows) (before : List ℕ) (told : ℕ) (is-told : told ≡ sheet_length (length rows)) where
  pub write_refused : length before < told → Written held before before (Err ListTooShort)
  write_refused short =
      let test = lt-ltb (length before) (sheet_length (length rows)) (omega arith) in
      subst (λ (all : List SheetRow). Written all before before (Err ListTooShort)) same
      (record { value = rw test; after = rw test; back = reads_back rows sound })

  pub write_done :
      (front tasks plans : List ℕ) (m n : ℕ) → told ≤ length before →
      front ≡ two_bytes (length rows) ++ two_bytes (sheet_length (length rows)) → tasks ≡ flat_map task_entry rows → plans ≡ flat_map plan_entry rows →
      m ≡ 7 * length rows → n ≡ 3 * length rows →
      Written held before (put_mid (4 + 7 * length rows) n (put_mid 4 m (front ++ drop 4 before) tasks) plans) (Ok told)
  write_done front tasks plans m n room is_front is-tasks is-plans is_m is-n =
      let test = le-ltb (length before) (sheet_length (length rows)) (omega arith) in
      let long = length-append front tasks in
      let tasks-long = ap length is-tasks ∙ length_tasks rows in
      let whole =
      ap (λ out. put_mid (4 + 7 * length rows) n out plans) (put_mid_at front (drop 4 before) tasks 4 m (ap length is_front))
      ∙ put_mid_at (front ++ tasks) (drop m (drop 4 before)) plans (4 + 7 * length rows) n (omega (arith, ap length is_front)) in
      let rest = drop-drop n m (drop 4 before) ∙ drop-drop (m + n) 4 before ∙ ap (λ k. drop k before) (omega arith) in
      let bytes = append_assoc front tasks plans ∙ ap₂ ◌++◌ is_front (ap₂ ◌++◌ is-tasks is-plans) in
      let after = put_mid (4 + 7 * length rows) n (put_mid 4 m (front ++ drop 4 before) tasks) plans in
      subst (λ (all : List SheetRow). Written all before after (Ok told)) same
      (record { value = rw (test, is-told); after = rw test (whole ∙ ap₂ ◌++◌ bytes rest); back = reads_back rows sound })
