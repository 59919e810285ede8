-- The digits of a rank: a listed choice for each rank, in the order of a dictionary.
use Rattle.std.proofs.Common.{◌≡◌, ℕ, zero, suc, ◌+◌, ◌-◌, ◌*◌, ◌/◌, ◌%◌, ◌<◌, List, [], ◌∷◌, ◌++◌, length, get_or, replicate, refl, ap, ◌∙◌, ap₂, inl, inr, mod-lt, mul-le-mul_left, arith}
use native.Mathlib.Decide.{dec_lt}
use Rattle.std.proofs.lemmas.Nat.{div_below, mul-add-lt, div-mul-add, mod-mul-add}
use Rattle.periods.specs.Divisors.{Divides}
use Rattle.periods.specs.Multiples.{lcm, most_tasks, Proper}
use Rattle.periods.specs.Listed.{Below, Listed, Before, radices, product, digits, start_of, RanksListTheChoices}
use Rattle.periods.specs.Lists.{in_places}
use Rattle.periods.proofs.Division.{divisor_le}
use Rattle.periods.proofs.Euclid.{gcd_greatest}

pub length-radices : (m : ℕ) (ts : List ℕ) → length (radices m ts) ≡ length ts
length-radices m [] = refl
length-radices m (t ∷ ts) = ap suc (length-radices (lcm m t) ts)

pub radix_divides : (m : ℕ) (ts : List ℕ) (q : ℕ) → q < length ts → Divides (get_or (radices m ts) q 0) (get_or ts q 0)
radix_divides m [] q h = absurd (omega arith)
radix_divides m (t ∷ ts) zero h = (gcd_greatest t m).divides_first
radix_divides m (t ∷ ts) (suc q) h = radix_divides (lcm m t) ts q (omega arith)

pub below_at : (gs ss : List ℕ) (q : ℕ) → Below gs ss → q < length gs → get_or ss q 0 < get_or gs q 0
below_at [] ss q h k = absurd (omega arith)
below_at (g ∷ gs) [] q h k = absurd h
below_at (g ∷ gs) (s ∷ ss) zero h k = h.0
below_at (g ∷ gs) (s ∷ ss) (suc q) h k = below_at gs ss q h.1 (omega arith)

-- the places without a task have start 0
pub in_places_at : (ss : List ℕ) (q : ℕ) → start_of (in_places ss) q ≡ start_of ss q
in_places_at ss q = zeros_at ss (most_tasks - length ss) q
  where
    zeros_at : (xs : List ℕ) (n i : ℕ) → get_or (xs ++ replicate n 0) i 0 ≡ get_or xs i 0
    zeros_at [] zero i = refl
    zeros_at [] (suc n) zero = refl
    zeros_at [] (suc n) (suc i) = zeros_at [] n i
    zeros_at (x ∷ xs) n zero = refl
    zeros_at (x ∷ xs) n (suc i) = zeros_at xs n i

-- a listed start is below its period
pub listed_below_period :
    (ts ss : List ℕ) (q : ℕ) → Proper ts → Listed ts ss → q < length ts → start_of ss q < get_or ts q 0
listed_below_period ts ss q proper h k =
    omega (
      arith,
      below_at (radices 1 ts) ss q h (omega (arith, length-radices 1 ts)),
      divisor_le (get_or (radices 1 ts) q 0) (get_or ts q 0) (radix_divides 1 ts q k) (proper q k).0,
    )

pub factor_pos : (a b n : ℕ) → n < a * b → 0 < b
factor_pos a zero n h = omega arith
factor_pos a (suc b) n h = omega arith

pub length_digits : (gs : List ℕ) (rank : ℕ) → length (digits gs rank) ≡ length gs
length_digits [] rank = refl
length_digits (g ∷ gs) rank = ap suc (length_digits gs (rank % product gs))

digits_below : (gs : List ℕ) (rank : ℕ) → rank < product gs → Below gs (digits gs rank)
digits_below [] rank h = tt
digits_below (g ∷ gs) rank h =
    let pos = factor_pos g (product gs) rank h in
    (div_below rank (product gs) g pos h, digits_below gs (rank % product gs) (mod-lt rank pos))

-- the rank of a choice, by which the digits are reached
rank_of : List ℕ → List ℕ → ℕ
rank_of [] ss = 0
rank_of (g ∷ gs) [] = 0
rank_of (g ∷ gs) (s ∷ ss) = s * product gs + rank_of gs ss

rank_below : (gs ss : List ℕ) → Below gs ss → rank_of gs ss < product gs
unfolding rank_of
rank_below [] ss h = omega arith
rank_below (g ∷ gs) [] h = absurd h
rank_below (g ∷ gs) (s ∷ ss) h =
    omega (arith, mul-add-lt s (product gs) (rank_of gs ss) g h.0 (rank_below gs ss h.1))

digits_rank : (gs ss : List ℕ) → Below gs ss → digits gs (rank_of gs ss) ≡ ss
unfolding rank_of
digits_rank [] [] h = refl
digits_rank [] (s ∷ ss) h = absurd h
digits_rank (g ∷ gs) [] h = absurd h
digits_rank (g ∷ gs) (s ∷ ss) h =
    let small = rank_below gs ss h.1 in
    ap₂ ◌∷◌ (div-mul-add s (product gs) (rank_of gs ss) small)
    (ap (digits gs) (mod-mul-add s (product gs) (rank_of gs ss) small) ∙ digits_rank gs ss h.1)

digits_rise : (gs : List ℕ) (r r' : ℕ) → r < r' → r' < product gs → Before (digits gs r) (digits gs r')
digits_rise [] r r' h k = absurd (omega arith)
digits_rise (g ∷ gs) r r' h k =
    let p = product gs in
    let pos = factor_pos g p r' k in
    elim (dec_lt (r / p) (r' / p)) [
      | yes lt ↦ inl lt
      | no ge ↦
          let e : r / p ≡ r' / p =
          elim (dec_lt (r' / p) (r / p)) [ yes gt ↦ omega (arith, mul-le-mul_left p gt) | no le ↦ omega arith ] in
          inr (e, digits_rise gs (r % p) (r' % p) (omega (arith, ap (λ n. p * n) e)) (mod-lt r' pos))
    ]

pub ranks_list_the_choices : (ts : List ℕ) → RanksListTheChoices ts
ranks_list_the_choices ts =
    let gs = radices 1 ts in
    record {
      listed = digits_below gs;
      reached = λ ss h. (rank_of gs ss, rank_below gs ss h, digits_rank gs ss h);
      rising = digits_rise gs;
    }
