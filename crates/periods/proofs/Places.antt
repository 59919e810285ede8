-- What the loops over the places keep.
use Rattle.std.proofs.Common.{◌≡◌, ℕ, zero, suc, ◌+◌, ◌-◌, ◌*◌, ◌/◌, ◌%◌, ◌<◌, ◌≤◌, List, [], ◌∷◌, ◌++◌, length, get_or, take, drop, set, replicate, sym, refl, ap, ◌∙◌, ap₂, mod-lt, mul-pos, le-mul_of_pos_right, arith}
use native.Mathlib.Nat.{mul-div_cancel_left}
use Rattle.std.proofs.lemmas.List.{append-nil, append_assoc, length-append, length-set, take-append-drop, take_more_set, drop-drop, drop-set-lt, drop-replicate, at_drop_more, at_drop_all}
use Rattle.std.proofs.lemmas.Nat.{div_below}
use Rattle.periods.specs.Divisors.{gcd}
use Rattle.periods.specs.Multiples.{lcm, multiple, common_period, most_tasks, Proper}
use Rattle.periods.specs.Listed.{radices, product, digits, number_of_choices}
use Rattle.periods.specs.Lists.{in_places}
use Rattle.periods.proofs.Euclid.{gcd_pos}
use Rattle.periods.proofs.Common.{lcm_pos, multiple_pos, multiple_grows}
use Rattle.periods.proofs.Ranks.{factor_pos, length_digits}

proper_rest : (ts : List ℕ) (n : ℕ) → Proper ts → Proper (drop n ts)
proper_rest ts zero h = h
proper_rest [] (suc n) h = h
proper_rest (t ∷ ts) (suc n) h = proper_rest ts n (λ q below. h (suc q) (omega arith))

-- m is the least common multiple of the first i periods, and what is left takes it to the common period
pub record MultipleSoFar (ts : List ℕ) (i m : ℕ) : Type 0 where
  pub pos : 1 ≤ m
  pub within : m ≤ common_period ts
  pub rest : multiple m (drop i ts) ≡ common_period ts

pub multiple_none : (ts : List ℕ) → Proper ts → MultipleSoFar ts 0 1
multiple_none ts proper = record { pos = omega arith; within = multiple_pos 1 ts (omega arith) proper; rest = refl }

pub multiple_more :
    (ts : List ℕ) (i m t l : ℕ) →
    i < length ts → Proper ts → MultipleSoFar ts i m → t ≡ get_or ts i 0 → l ≡ lcm m t → MultipleSoFar ts (i + 1) l
multiple_more ts i m t l below proper h at is =
    let pos : 1 ≤ l = rw (is, at) (lcm_pos m (get_or ts i 0) h.pos (proper i below).0) in
    let rest : multiple l (drop (i + 1) ts) ≡ common_period ts =
    rw (is, at) (sym (at_drop_more (multiple m) ts i 0 below) ∙ h.rest) in
    record {
      pos = pos;
      within = rw (← rest) (multiple_grows l (drop (i + 1) ts) pos (proper_rest ts (i + 1) proper));
      rest = rest;
    }

-- the radices of the first i places are listed, and total is their product
pub record RadicesSoFar (ts : List ℕ) (i m total : ℕ) (listed : List ℕ) : Type 0 where
  pub common : MultipleSoFar ts i m
  pub pos : 1 ≤ total
  pub long : length listed ≡ i
  pub written : listed ++ radices m (drop i ts) ≡ radices 1 ts
  pub counted : total * product (radices m (drop i ts)) ≡ number_of_choices ts

radices_pos : (m : ℕ) (ts : List ℕ) → Proper ts → 0 < product (radices m ts)
radices_pos m [] proper = omega arith
radices_pos m (t ∷ ts) proper =
    mul-pos (gcd_pos t m (proper 0 (omega arith)).0) (radices_pos (lcm m t) ts (λ q below. proper (suc q) (omega arith)))

pub radices_none : (ts listed : List ℕ) → Proper ts → listed ≡ [] → RadicesSoFar ts 0 1 1 listed
radices_none ts listed proper none = record {
  common = multiple_none ts proper;
  pos = omega arith;
  long = ap length none;
  written = ap (λ gs. gs ++ radices 1 ts) none;
  counted = omega arith;
}

pub radices_more :
    (ts : List ℕ) (i m total : ℕ) (listed : List ℕ) (t g l : ℕ) →
    i < length ts → Proper ts → RadicesSoFar ts i m total listed →
    t ≡ get_or ts i 0 → g ≡ gcd t m → l ≡ lcm m t → RadicesSoFar ts (i + 1) l (total * g) (listed ++ g ∷ [])
radices_more ts i m total listed t g l below proper h at is-g is-l =
    let next : radices m (drop i ts) ≡ g ∷ radices l (drop (i + 1) ts) =
    rw (is-g, is-l, at) (at_drop_more (radices m) ts i 0 below) in
    record {
      common = multiple_more ts i m t l below proper h.common at is-l;
      pos = mul-pos h.pos (rw (is-g, at) (gcd_pos (get_or ts i 0) m (proper i below).0));
      long = omega (arith, h.long, length-append listed (g ∷ []));
      written = rw (append_assoc, ← next) h.written;
      counted = omega (arith, ap (λ ns. total * product ns) next, h.counted);
    }

-- the product so far is never above the number of choices
pub radices_within :
    (ts : List ℕ) (i m total : ℕ) (listed : List ℕ) →
    Proper ts → RadicesSoFar ts i m total listed → total ≤ number_of_choices ts
radices_within ts i m total listed proper h =
    rw (← h.counted) (le-mul_of_pos_right total (radices_pos m (drop i ts) (proper_rest ts i proper)))

-- the first i digits of a rank are written; rest is what is left of it, below the product of the later radices
pub record DigitsSoFar (gs : List ℕ) (rank i rest weight : ℕ) (starts : List ℕ) : Type 0 where
  pub width : length starts ≡ most_tasks
  pub under : rest < weight
  pub weighs : weight ≡ product (drop i gs)
  pub written : take i starts ++ digits (drop i gs) rest ≡ digits gs rank
  pub zeros : drop i starts ≡ drop i (replicate most_tasks 0)

-- what is divided by at a place
pub digits_weight :
    (gs : List ℕ) (rank i rest weight : ℕ) (starts : List ℕ) (g w : ℕ) →
    i < length gs → DigitsSoFar gs rank i rest weight starts → g ≡ get_or gs i 0 → w ≡ weight / g →
    (0 < g) × (0 < w) × (w ≡ product (drop (i + 1) gs)) × (rest / w < g)
digits_weight gs rank i rest weight starts g w below h at is =
    let p = product (drop (i + 1) gs) in
    let split : weight ≡ g * p = rw at (h.weighs ∙ at_drop_more product gs i 0 below) in
    let under : rest < g * p = rw (← split) h.under in
    let pos-p = factor_pos g p rest under in
    let pos-g = factor_pos p g rest (omega arith) in
    let quotient : w ≡ p = rw (is, split) (mul-div_cancel_left p pos-g) in
    (pos-g, rw quotient pos-p, quotient, rw quotient (div_below rest p g pos-p under))

pub digits_more :
    (gs : List ℕ) (rank i rest weight : ℕ) (starts : List ℕ) (g w : ℕ) →
    i < length gs → length gs ≤ most_tasks → DigitsSoFar gs rank i rest weight starts →
    g ≡ get_or gs i 0 → w ≡ weight / g →
    DigitsSoFar gs rank (i + 1) (rest % w) w (set starts i (rest / w))
digits_more gs rank i rest weight starts g w below few h at is =
    let (pos-g, pos-w, weighs, small) = digits_weight gs rank i rest weight starts g w below h at is in
    let next : digits (drop i gs) rest ≡ rest / w ∷ digits (drop (i + 1) gs) (rest % w) =
    rw weighs (at_drop_more (λ ns. digits ns rest) gs i 0 below) in
    record {
      width = length-set starts i (rest / w) ∙ h.width;
      under = mod-lt rest pos-w;
      weighs = weighs;
      written = rw (take_more_set starts i (rest / w) (omega arith), append_assoc, ← next) h.written;
      zeros =
          drop-set-lt (i + 1) starts i (rest / w) (omega arith) ∙ sym (drop-drop 1 i starts)
          ∙ ap (drop 1) h.zeros ∙ drop-drop 1 i (replicate most_tasks 0);
    }

pub digits_all :
    (gs : List ℕ) (rank i rest weight : ℕ) (starts : List ℕ) →
    i ≡ length gs → DigitsSoFar gs rank i rest weight starts → starts ≡ in_places (digits gs rank)
digits_all gs rank i rest weight starts end h =
    let front : take i starts ≡ digits gs rank =
    sym (append-nil (take i starts)) ∙ sym (at_drop_all (λ ns. take i starts ++ digits ns rest) gs i (omega arith))
    ∙ h.written in
    let back : drop i starts ≡ replicate (most_tasks - i) 0 = h.zeros ∙ drop-replicate i most_tasks 0 in
    let long : i ≡ length (digits gs rank) = omega (arith, length_digits gs rank) in
    sym (take-append-drop i starts) ∙ ap₂ ◌++◌ front (back ∙ ap (λ n. replicate (most_tasks - n) 0) long)
