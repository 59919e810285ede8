-- Divisors, and the greatest common one.
use Rattle.std.specs.Prelude.{◌≡◌, ℕ, zero, suc, ◌*◌, ◌%◌}

abbrev pub Divides : ℕ → ℕ → Type 0
Divides d n = (k : ℕ) × (n ≡ k * d)

-- Euclid's rule: gcd(a, 0) is a, and gcd(a, b) is gcd(b, a mod b). The first argument bounds the steps;
-- the remainder falls below b with each, so b steps are enough.
unfoldable pub euclid : ℕ → ℕ → ℕ → ℕ
euclid zero a b = a
euclid (suc steps) a zero = a
euclid (suc steps) a (suc b) = euclid steps (suc b) (a % suc b)

unfoldable pub gcd : ℕ → ℕ → ℕ
unfolding euclid
gcd a b = euclid b a b

-- g divides a and b, and every common divisor of a and b divides g
pub record GreatestCommonDivisor (a b g : ℕ) : Type 0 where
  pub divides_first : Divides g a
  pub divides_second : Divides g b
  pub greatest : (d : ℕ) → Divides d a → Divides d b → Divides d g
