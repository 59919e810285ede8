-- The least common multiple, of two numbers and of a list.
use Prim.Native.Nat.{ℕ, zero, suc, ◌+◌, ◌-◌, ◌*◌, ◌/◌, ◌≤◌, ◌<◌}
use native.Mathlib.Nat.{eq_of_mul-eq-mul_right, mul-pos}
use native.Mathlib.Decide.{dec_le}
use native.Mathlib.Omega.{arith}
use mathlib.Core.Path.{◌≡◌, refl, ap, subst}
use mathlib.Core.List.{List, [], ◌∷◌}
use Rattle.periods.specs.Divisors.{Divides, gcd}
use Rattle.periods.specs.Multiples.{lcm, multiple, common_period, CommonMultiple, LeastCommonMultiple, Proper}
use Rattle.periods.specs.Listed.{radices, product, ChoicesTimesPeriod}
use Rattle.periods.proofs.Division.{Congruent, divides_self, divides_zero, divides_trans, divides_rest, divisor_le, divisor_pos, quotient_times, congruent_sym, congruent_difference}
use Rattle.periods.proofs.Euclid.{gcd_greatest, gcd_difference, gcd_comm, gcd_pos}

pub lcm-gcd : (a b : ℕ) → lcm a b * gcd a b ≡ a * b
unfolding lcm
lcm-gcd a b =
    omega (arith, ap (λ n. a * n) (quotient_times (gcd a b) b (gcd_greatest a b).divides_second))

pub divides_lcm_first : (a b : ℕ) → Divides a (lcm a b)
unfolding lcm
divides_lcm_first a b = (b / gcd a b, omega arith)

pub divides_lcm_second : (a b : ℕ) → Divides b (lcm a b)
unfolding lcm
divides_lcm_second a b =
    let g = gcd a b in
    let h = gcd_greatest a b in (
      a / g,
      omega (arith, ap (λ n. n * (b / g)) (quotient_times g a h.divides_first), ap (λ n. a / g * n) (quotient_times g b h.divides_second)),
    )

-- n is a multiple of a and of b: by Bezout n * gcd a b is a difference of multiples of lcm a b * gcd a b
lcm_least_pos : (a b n : ℕ) → 0 < a → Divides a n → Divides b n → Divides (lcm a b) n
lcm_least_pos a b n pos h k =
    let g = gcd a b in
    let l = lcm a b in
    let (x, y, e) = gcd_difference a b pos in
    divides_rest l (h.0 * y * l) n (
      k.0 * x,
      eq_of_mul-eq-mul_right g (gcd_pos a b pos) (h.0 * y * l + n) (k.0 * x * l)
          (omega (
            arith,
            ap (λ m. n * m) e,
            ap (λ m. m * b * y) h.1,
            ap (λ m. m * a * x) k.1,
            ap (λ m. h.0 * y * m) (lcm-gcd a b),
            ap (λ m. k.0 * x * m) (lcm-gcd a b),
          )),
    )
    (h.0 * y, refl)

pub lcm_least : (a b n : ℕ) → Divides a n → Divides b n → Divides (lcm a b) n
lcm_least zero b n h k = subst (Divides (lcm zero b)) (omega (arith, h.1)) (divides_zero (lcm zero b))
lcm_least (suc a) b n h k = lcm_least_pos (suc a) b n (omega arith) h k

pub lcm_pos : (a b : ℕ) → 0 < a → 0 < b → 0 < lcm a b
lcm_pos a b pos-a pos-b =
    divisor_pos (lcm a b) (a * b) (lcm_least a b (a * b) (b, omega arith) (a, refl)) (mul-pos pos-a pos-b)

lcm_congruent_le : (a b x y : ℕ) → x ≤ y → Congruent a x y → Congruent b x y → Congruent (lcm a b) x y
lcm_congruent_le a b x y le h k =
    let d = lcm_least a b (y - x) (congruent_difference a x y le h) (congruent_difference b x y le k) in
    (d.0, 0, omega (arith, d.1))

-- numbers congruent by a and by b are congruent by their least common multiple
pub lcm_congruent : (a b x y : ℕ) → Congruent a x y → Congruent b x y → Congruent (lcm a b) x y
lcm_congruent a b x y h k =
    elim (dec_le x y) [
      | yes le ↦ lcm_congruent_le a b x y le h k
      | no gt ↦
          congruent_sym (lcm a b) y x
          (lcm_congruent_le a b y x (omega arith) (congruent_sym a x y h) (congruent_sym b x y k))
    ]

pub divides_multiple : (m : ℕ) (ts : List ℕ) → Divides m (multiple m ts)
divides_multiple m [] = divides_self m
divides_multiple m (t ∷ ts) =
    divides_trans m (lcm m t) (multiple (lcm m t) ts) (divides_lcm_first m t) (divides_multiple (lcm m t) ts)

pub multiple_common : (m : ℕ) (ts : List ℕ) → CommonMultiple ts (multiple m ts)
multiple_common m [] q h = absurd (omega arith)
multiple_common m (t ∷ ts) zero h =
    divides_trans t (lcm m t) (multiple (lcm m t) ts) (divides_lcm_second m t) (divides_multiple (lcm m t) ts)
multiple_common m (t ∷ ts) (suc q) h = multiple_common (lcm m t) ts q (omega arith)

pub multiple_least : (m : ℕ) (ts : List ℕ) (n : ℕ) → Divides m n → CommonMultiple ts n → Divides (multiple m ts) n
multiple_least m [] n h k = h
multiple_least m (t ∷ ts) n h k =
    multiple_least (lcm m t) ts n (lcm_least m t n h (k 0 (omega arith))) (λ q below. k (suc q) (omega arith))

pub multiple_pos : (m : ℕ) (ts : List ℕ) → 0 < m → Proper ts → 0 < multiple m ts
multiple_pos m [] h k = h
multiple_pos m (t ∷ ts) h k =
    multiple_pos (lcm m t) ts (lcm_pos m t h (k 0 (omega arith)).0) (λ q below. k (suc q) (omega arith))

-- a further period never makes a common multiple smaller
pub multiple_grows : (m : ℕ) (ts : List ℕ) → 0 < m → Proper ts → m ≤ multiple m ts
multiple_grows m ts h k = divisor_le m (multiple m ts) (divides_multiple m ts) (multiple_pos m ts h k)

pub common_period_least : (ts : List ℕ) → LeastCommonMultiple ts (common_period ts)
common_period_least ts = record {
  common = multiple_common 1 ts;
  least = λ n. multiple_least 1 ts n (n, omega arith);
}

radices_times_multiple : (m : ℕ) (ts : List ℕ) → product (radices m ts) * multiple m ts ≡ m * product ts
radices_times_multiple m [] = omega arith
radices_times_multiple m (t ∷ ts) =
    omega (
      arith,
      ap (λ n. gcd t m * n) (radices_times_multiple (lcm m t) ts),
      ap (λ n. n * product ts) (lcm-gcd m t),
      ap (λ g. g * lcm m t * product ts) (gcd_comm t m),
    )

pub choices_times_period : (ts : List ℕ) → ChoicesTimesPeriod ts
choices_times_period ts = omega (arith, radices_times_multiple 1 ts)
