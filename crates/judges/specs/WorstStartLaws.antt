-- The laws of the worst-start judge.
use Rattle.std.specs.Prelude.{◌≡◌, ℕ, zero, suc, ◌+◌, ◌-◌, ◌*◌, ◌<◌, ◌≤◌, Bool, ◌⊎◌, List, length}
use Rattle.std.proofs.Common.{ap, inl, inr, mul-le-mul_right, div-mul-le_self, le-div_iff_mul-le, arith}
use Rattle.std.proofs.lemmas.Bool.{cases_lt}
use Rattle.tasks.specs.declared.figures.Figures.{Figures}
use Rattle.timeline.specs.Laws.{AllFair, rounds_in}
use Rattle.timeline.specs.Timeline.{task_at, below_those}
use Rattle.timeline.proofs.Laws.{worst_starts_law}
use Rattle.timeline.proofs.Members.{counted_mono}
use Rattle.judges.specs.Meaning.{Lawful, Measured}
use Rattle.judges.specs.WorstStart.{work_below, SettlesInTime, InTimeAtWorst}
use Rattle.judges.specs.Above.{alone_below, member, above_from_member, member_from_above, members_most, Fewer, Stays, lawful_if_stays}

rounds_rise : (x y period : ℕ) → 0 < period → x ≤ y → rounds_in x period ≤ rounds_in y period
rounds_rise x y period pos le =
    let m = div-mul-le_self (x + (period - 1)) period in
    (le-div_iff_mul-le pos).1 (omega arith)

-- more ticks bring no less work
pub work_rises :
    (tasks : List Figures) (judged : ℕ) (above : ℕ → Bool) → AllFair tasks → (x y : ℕ) → x ≤ y →
    work_below tasks judged above x ≤ work_below tasks judged above y
work_rises tasks judged above fair x y le =
    let s =
    counted_mono (member judged above) (λ p. rounds_in x (task_at tasks p).period * (task_at tasks p).work)
    (λ p. rounds_in y (task_at tasks p).period * (task_at tasks p).work) (length tasks)
    (λ p l is.
    mul-le-mul_right (task_at tasks p).work (rounds_rise x y (task_at tasks p).period (omega (arith, fair p l)) le))
    in
    omega arith

-- fewer tasks above bring no more
work_fewer :
    (tasks tasks' : List Figures) (starts starts' : ℕ → ℕ) (judged : ℕ) (above above' : ℕ → Bool) →
    Fewer tasks tasks' starts starts' judged above above' → (x : ℕ) → work_below tasks' judged above' x ≤ work_below tasks judged above x
work_fewer tasks tasks' starts starts' judged above above' fewer x =
    let own = ap (λ (task : Figures). task.work) fewer.same.task in
    let s =
    members_most (member judged above') (member judged above) (λ p. rounds_in x (task_at tasks' p).period * (task_at tasks' p).work)
    (λ p. rounds_in x (task_at tasks p).period * (task_at tasks p).work) (length tasks') (length tasks)
    (λ q l is.
    let kept = fewer.kept q (above_from_member tasks' judged above' q l is) in
    let e = ap (λ (task : Figures). rounds_in x task.period * task.work) kept.1.task in
    (kept.0.held, member_from_above tasks judged above q kept.0, omega arith))
    in
    omega arith

-- the first number that w does not raise, if there is one below n
first_low :
    (w : ℕ → ℕ) (n : ℕ) →
    ((z : ℕ) → z < n → w z ≤ z → ⊥) ⊎ ((R : ℕ) × (R < n) × (w R ≤ R) × ((z : ℕ) → w z ≤ z → R ≤ z))
first_low w zero = inl (λ z l low. omega arith)
first_low w (suc n) = go (first_low w n) (cases_lt n (w n))
  where
    go :
        ((z : ℕ) → z < n → w z ≤ z → ⊥) ⊎ ((R : ℕ) × (R < n) × (w R ≤ R) × ((z : ℕ) → w z ≤ z → R ≤ z)) →
        (n < w n) ⊎ (w n ≤ n) →
        ((z : ℕ) → z < suc n → w z ≤ z → ⊥) ⊎ ((R : ℕ) × (R < suc n) × (w R ≤ R) × ((z : ℕ) → w z ≤ z → R ≤ z))
    go (inr (R, l, low, first)) _ = inr (R, omega arith, low, first)
    go (inl none) (inr low) = inr (n, omega arith, low, λ z low'. at z low' (cases_lt z n))
      where
        at : (z : ℕ) → w z ≤ z → (z < n) ⊎ (n ≤ z) → n ≤ z
        at z low' (inl l) = absurd (none z l low')
        at z low' (inr l) = l
    go (inl none) (inl raised) = inl (λ z l low. at z l low (cases_lt z n))
      where
        at : (z : ℕ) → z < suc n → w z ≤ z → (z < n) ⊎ (n ≤ z) → ⊥
        at z l low (inl l') = none z l' low
        at z l low (inr l') = let e : z ≡ n = omega arith in let s = ap w e in omega arith

-- a w that rises leaves it as it is
least_settled :
    (w : ℕ → ℕ) → ((x y : ℕ) → x ≤ y → w x ≤ w y) → (x : ℕ) → w x ≤ x →
    (R : ℕ) × (R ≤ x) × (w R ≡ R) × ((z : ℕ) → w z ≡ z → R ≤ z)
least_settled w rises x low = go (first_low w (suc x))
  where
    go :
        ((z : ℕ) → z < suc x → w z ≤ z → ⊥) ⊎ ((R : ℕ) × (R < suc x) × (w R ≤ R) × ((z : ℕ) → w z ≤ z → R ≤ z)) →
        (R : ℕ) × (R ≤ x) × (w R ≡ R) × ((z : ℕ) → w z ≡ z → R ≤ z)
    go (inl none) = absurd (none x (omega arith) low)
    go (inr (R, l, low', first)) =
        (R, omega arith, (let again = first (w R) (rises (w R) R low') in omega arith), λ z e. first z (omega arith))

pub worst_start_lawful : Lawful InTimeAtWorst
worst_start_lawful =
    lawful_if_stays InTimeAtWorst (λ tasks starts judged above ruled. ruled.1.placed) stays
    (λ tasks starts judged above fair ruled.
    worst_starts_law tasks fair (below_those judged above) judged ruled.0 ruled.1.placed (alone_below tasks judged above)
    ruled.1.settles.settled ruled.1.in_time starts)
    (λ tasks starts starts' judged above fair rel ruled.
    (ruled.0, record { placed = ruled.1.placed; settles = ruled.1.settles; in_time = ruled.1.in_time }))
  where
    stays : Stays InTimeAtWorst
    stays tasks tasks' starts starts' judged above above' fair fair' fewer (R, is) =
        go
        (least_settled (work_below tasks' judged above') (work_rises tasks' judged above' fair') R
        (omega (arith, work_fewer tasks tasks' starts starts' judged above above' fewer R, is.settles.settled)))
      where
        go :
            ((S : ℕ) × (S ≤ R) × (work_below tasks' judged above' S ≡ S) × ((z : ℕ) → work_below tasks' judged above' z ≡ z → S ≤ z)) →
            InTimeAtWorst tasks' starts' judged above'
        go (S, le, settled, first) = (
          S,
          record {
            placed = fewer.inside;
            settles = record { enough = omega arith; settled = settled; least = λ x enough e. first x e };
            in_time = omega (arith, is.in_time, ap (λ (task : Figures). task.deadline) fewer.same.task);
          },
        )

pub worst_start_measured : Measured InTimeAtWorst SettlesInTime
worst_start_measured =
    record {
      ruled = λ tasks starts judged above R is. (R, is);
      one = λ tasks starts judged above R S is other.
          let low = is.settles.least S other.settles.enough other.settles.settled in
          let high = other.settles.least R is.settles.enough is.settles.settled in
          omega arith;
      within = λ tasks starts judged above R fair is. (is.settles.enough, is.in_time);
    }
