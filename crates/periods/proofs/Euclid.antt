-- Euclid's rule gives the greatest common divisor, and writes it as a difference of multiples.
use Rattle.std.proofs.Common.{◌≡◌, ℕ, zero, suc, ◌+◌, ◌*◌, ◌/◌, ◌%◌, ◌<◌, ◌≤◌, refl, ap, subst, div-add-mod', arith}
use Rattle.periods.specs.Divisors.{Divides, euclid, gcd, GreatestCommonDivisor}
use Rattle.periods.proofs.Division.{divides_self, divides_zero, divides_sum, divides_rest, divides_times, divides_antisym, divisor_pos}

-- more steps than enough change nothing
enough : (steps more a b : ℕ) → b ≤ steps → b ≤ more → euclid steps a b ≡ euclid more a b
unfolding euclid
enough zero zero a b h k = refl
enough zero (suc more) a zero h k = refl
enough zero (suc more) a (suc b) h k = absurd (omega arith)
enough (suc steps) zero a zero h k = refl
enough (suc steps) zero a (suc b) h k = absurd (omega arith)
enough (suc steps) (suc more) a zero h k = refl
enough (suc steps) (suc more) a (suc b) h k =
    enough steps more (suc b) (a % suc b) (omega arith) (omega arith)

pub gcd_zero : (a : ℕ) → gcd a 0 ≡ a
unfolding gcd euclid
gcd_zero a = refl

pub gcd_step : (a b : ℕ) → 0 < b → gcd a b ≡ gcd b (a % b)
unfolding gcd euclid
gcd_step a zero h = absurd (omega arith)
gcd_step a (suc b) h = enough b (a % suc b) (suc b) (a % suc b) (omega arith) (omega arith)

-- what holds of a and 0, and of a and b when it holds of b and the remainder, holds of all a and b
module _ (P : ℕ → ℕ → ℕ → Type 0) (start : (a : ℕ) → P a 0 a) (step : (a b g : ℕ) → 0 < b → P b (a % b) g → P a b g) where
  by_steps : (steps a b : ℕ) → b ≤ steps → P a b (euclid steps a b)
  unfolding euclid
  by_steps zero a zero h = start a
  by_steps zero a (suc b) h = absurd (omega arith)
  by_steps (suc steps) a zero h = start a
  by_steps (suc steps) a (suc b) h = step a (suc b) _ (omega arith) (by_steps steps (suc b) (a % suc b) (omega arith))

  by_euclid : (a b : ℕ) → P a b (gcd a b)
  unfolding gcd
  by_euclid a b = by_steps b a b (omega arith)

-- a divisor of b divides a exactly when it divides the remainder
divides_remainder : (d a b : ℕ) → Divides d a → Divides d b → Divides d (a % b)
divides_remainder d a b h k =
    divides_rest d (a / b * b) (a % b) (subst (Divides d) (omega arith) h) (divides_times d (a / b) b k)

divides_dividend : (d a b : ℕ) → Divides d (a % b) → Divides d b → Divides d a
divides_dividend d a b h k =
    subst (Divides d) (omega arith) (divides_sum d (a / b * b) (a % b) (divides_times d (a / b) b k) h)

pub gcd_greatest : (a b : ℕ) → GreatestCommonDivisor a b (gcd a b)
gcd_greatest =
    by_euclid GreatestCommonDivisor
    (λ a. record { divides_first = divides_self a; divides_second = divides_zero a; greatest = λ d h k. h })
    (λ a b g pos ih.
    record {
      divides_first = divides_dividend g a b ih.divides_second ih.divides_first;
      divides_second = ih.divides_first;
      greatest = λ d h k. ih.greatest d k (divides_remainder d a b h k);
    })

-- g as a difference of multiples of b and a, turned into one of multiples of a and b
exchange :
    (a b g x y : ℕ) →
    suc b * x ≡ g + suc a * y → suc a * (x + b * (x + y)) ≡ g + suc b * (y + a * (x + y))
exchange a b g x y e = omega arith

-- some multiple of a is by g larger than some multiple of b
abbrev Difference : ℕ → ℕ → ℕ → Type 0
Difference a b g = 0 < a → (x : ℕ) × (y : ℕ) × (a * x ≡ g + b * y)

difference_step : (a b g : ℕ) → 0 < b → Difference b (a % b) g → Difference a b g
difference_step zero b g pos-b ih pos-a = absurd (omega arith)
difference_step (suc a) zero g pos-b ih pos-a = absurd (omega arith)
difference_step (suc a) (suc b) g pos-b ih pos-a =
    let q = suc a / suc b in
    let (x, y, e) = ih pos-b in
    (_, _, exchange a b g (x + q * y) y (omega (arith, e, ap (λ n. n * y) (div-add-mod' (suc a) (suc b)))))

-- Bezout's identity
pub gcd_difference : (a b : ℕ) → 0 < a → (x : ℕ) × (y : ℕ) × (a * x ≡ gcd a b + b * y)
gcd_difference = by_euclid Difference (λ a pos. (1, 0, omega arith)) difference_step

pub gcd_comm : (a b : ℕ) → gcd a b ≡ gcd b a
gcd_comm a b =
    let h = gcd_greatest a b in
    let k = gcd_greatest b a in
    divides_antisym (gcd a b) (gcd b a)
    (k.greatest (gcd a b) h.divides_second h.divides_first)
    (h.greatest (gcd b a) k.divides_second k.divides_first)

pub gcd_pos : (a b : ℕ) → 0 < a → 0 < gcd a b
gcd_pos a b pos = divisor_pos (gcd a b) a (gcd_greatest a b).divides_first pos
