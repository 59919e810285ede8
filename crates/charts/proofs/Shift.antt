-- Levels counted from 0 in the place of 1: nothing stands on the level 0 of a sheet, so all is served alike.
use Rattle.std.proofs.Common.{◌≡◌, ℕ, zero, suc, ◌+◌, ◌-◌, ◌<◌, true, false, cond, ◌&&◌, eqb, ltb, ◌⊎◌, refl, ap, ◌∙◌, ap₂, inl, inr, arith}
use Rattle.std.proofs.lemmas.Bool.{cases_order}
use Rattle.std.proofs.lemmas.Bool.Decides.{nat_tests}
use Rattle.timeline.specs.Processor.{Demands, sum_below, owing, ready, runs, Idle}
use Rattle.timeline.proofs.Backlog.{sum_below_same}
use Rattle.timeline.proofs.Backlog.{part_le}
use Rattle.charts.specs.Plans.{from_zero}

-- a sum without its first part
pub sum_first : (f : ℕ → ℕ) (n : ℕ) → sum_below f (suc n) ≡ f 0 + sum_below (λ i. f (suc i)) n
sum_first f zero = omega arith
sum_first f (suc n) = let ih = sum_first f n in omega arith

module _ (E : Demands) (none : (tick : ℕ) → E 0 tick ≡ 0) where
  top_owes : (tick : ℕ) → owing E tick 0 ≡ 0
  top_owes zero = refl
  top_owes (suc tick) = let ih = top_owes tick in let e = none tick in grind (arith, nat_tests)

  module _ (tick : ℕ) (same : (level : ℕ) → owing E tick (suc level) ≡ owing (from_zero E) tick level) where
    ready_at : (level : ℕ) → ready E tick (suc level) ≡ ready (from_zero E) tick level
    ready_at level = ap (λ units. units + E (suc level) tick) (same level)

    sum_at : (level : ℕ) → sum_below (ready E tick) (suc level) ≡ sum_below (ready (from_zero E) tick) level
    sum_at level =
        let first = sum_first (ready E tick) level in
        let rest = sum_below_same (λ i. ready E tick (suc i)) (ready (from_zero E) tick) level (λ i l. ready_at i) in
        let top = top_owes tick in
        let e = none tick in
        omega arith

  pub owing_shift : (tick level : ℕ) → owing E tick (suc level) ≡ owing (from_zero E) tick level
  owing_shift zero level = refl
  owing_shift (suc tick) level =
      let same = owing_shift tick in
      ap₂ (λ s u. cond (eqb s 0) (u - 1) u) (sum_at tick same level) (ready_at tick same level)

  pub runs_shift : (tick level : ℕ) → runs E tick (suc level) ≡ runs (from_zero E) tick level
  runs_shift tick level =
      let same = owing_shift tick in
      ap₂ (λ s u. eqb s 0 && ltb 0 u) (sum_at tick same level) (ready_at tick same level)

  pub idle_shift : (tick : ℕ) → Idle (from_zero E) tick → Idle E tick
  idle_shift tick idle zero = let top = top_owes tick in let e = none tick in omega arith
  idle_shift tick idle (suc level) = ready_at tick (owing_shift tick) level ∙ idle level

-- two levels do not run in one tick
pub one_runs : (D : Demands) (tick l m : ℕ) → runs D tick l ≡ true → (l ≡ m → ⊥) → runs D tick m ≡ false
one_runs D tick l m run ne = go (cases_order l m)
  where
    go : (l ≡ m) ⊎ ((l < m) ⊎ (m < l)) → runs D tick m ≡ false
    go (inl e) = absurd (ne e)
    go (inr (inl lt)) = let part = part_le (ready D tick) l m lt in grind (arith, nat_tests)
    go (inr (inr gt)) = let part = part_le (ready D tick) m l gt in grind (arith, nat_tests)
