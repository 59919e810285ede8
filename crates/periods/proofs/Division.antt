-- Divisors of sums, products and remainders, and numbers that differ by multiples.
use Rattle.std.proofs.Common.{◌≡◌, ℕ, zero, suc, ◌+◌, ◌-◌, ◌*◌, ◌/◌, ◌%◌, ◌<◌, ◌≤◌, sym, refl, ap, ◌∙◌, mod-eq_of_lt, arith}
use native.Mathlib.Nat.{mul-sub, div-eq_of_eq-mul_left, add-mul-mod_self_right}
use Rattle.periods.specs.Divisors.{Divides}

pub divides_self : (n : ℕ) → Divides n n
divides_self n = (1, omega arith)

pub divides_zero : (d : ℕ) → Divides d 0
divides_zero d = (0, omega arith)

pub divides_trans : (a b c : ℕ) → Divides a b → Divides b c → Divides a c
divides_trans a b c h k = (k.0 * h.0, omega (arith, k.1, ap (λ n. k.0 * n) h.1))

pub divides_times : (d c n : ℕ) → Divides d n → Divides d (c * n)
divides_times d c n h = (c * h.0, omega (arith, ap (λ n. c * n) h.1))

pub divides_sum : (d m n : ℕ) → Divides d m → Divides d n → Divides d (m + n)
divides_sum d m n h k = (h.0 + k.0, omega (arith, h.1, k.1))

-- the other part of a sum
pub divides_rest : (d m n : ℕ) → Divides d (m + n) → Divides d m → Divides d n
divides_rest d m n h k =
    (h.0 - k.0, omega (arith, h.1, k.1, mul-sub d h.0 k.0))

pub divisor_le : (d n : ℕ) → Divides d n → 0 < n → d ≤ n
divisor_le d n h pos = go h.0 h.1
  where
    go : (k : ℕ) → n ≡ k * d → d ≤ n
    go zero e = omega arith
    go (suc k) e = omega arith

pub divisor_pos : (d n : ℕ) → Divides d n → 0 < n → 0 < d
divisor_pos zero n h pos = omega (arith, h.1)
divisor_pos (suc d) n h pos = omega arith

pub divides_antisym : (m n : ℕ) → Divides m n → Divides n m → m ≡ n
divides_antisym zero zero h k = refl
divides_antisym zero (suc n) h k = omega (arith, h.1)
divides_antisym (suc m) zero h k = omega (arith, k.1)
divides_antisym (suc m) (suc n) h k =
    omega (arith, divisor_le (suc m) (suc n) h (omega arith), divisor_le (suc n) (suc m) k (omega arith))

-- the cofactor is the quotient
pub quotient_times : (d n : ℕ) → Divides d n → n / d * d ≡ n
quotient_times zero n h = omega (arith, h.1)
quotient_times (suc d) n h = ap (λ q. q * suc d) (div-eq_of_eq-mul_left (omega arith) h.1) ∙ sym h.1

-- a and b differ by a multiple of n: the multiples stand on both sides, so that no difference is needed
abbrev pub Congruent : ℕ → ℕ → ℕ → Type 0
Congruent n a b = (u : ℕ) × (v : ℕ) × (a + u * n ≡ b + v * n)

pub congruent_sym : (n a b : ℕ) → Congruent n a b → Congruent n b a
congruent_sym n a b c = (c.1, c.0, sym c.2)

pub congruent_divisor : (d n a b : ℕ) → Divides d n → Congruent n a b → Congruent d a b
congruent_divisor d n a b h c =
    (c.0 * h.0, c.1 * h.0, omega (arith, c.2, ap (λ m. c.0 * m) h.1, ap (λ m. c.1 * m) h.1))

-- the other parts of two congruent sums
pub congruent_rest : (n x y a b : ℕ) → Congruent n (x + a) (y + b) → Congruent n a b → Congruent n x y
congruent_rest n x y a b h c = (h.0 + c.1, h.1 + c.0, omega (arith, h.2, c.2))

-- two remainders that are congruent are equal
pub congruent_below : (n a b : ℕ) → a < n → b < n → Congruent n a b → a ≡ b
congruent_below n a b la lb c =
    sym (mod-eq_of_lt la) ∙ sym (add-mul-mod_self_right a c.0 n) ∙ ap (λ m. m % n) c.2
    ∙ add-mul-mod_self_right b c.1 n ∙ mod-eq_of_lt lb

-- the difference of two congruent numbers
pub congruent_difference : (n a b : ℕ) → a ≤ b → Congruent n a b → Divides n (b - a)
congruent_difference n a b le c = (c.0 - c.1, omega (arith, c.2, mul-sub n c.0 c.1))
