-- Every choice of starts is related to exactly one listed choice.
use Rattle.std.proofs.Common.{◌≡◌, ℕ, zero, suc, ◌+◌, ◌*◌, ◌/◌, ◌%◌, ◌<◌, List, [], ◌∷◌, length, get_or, sym, refl, ap, ap₂, mod-lt, arith}
use Rattle.periods.specs.Divisors.{Divides, gcd}
use Rattle.periods.specs.Multiples.{lcm, Proper}
use Rattle.periods.specs.Listed.{Related, Below, radices, start_of, OneListedChoice}
use Rattle.periods.proofs.Division.{Congruent, divides_sum, divides_trans, congruent_divisor, congruent_rest, congruent_below}
use Rattle.periods.proofs.Euclid.{gcd_greatest, gcd_difference, gcd_pos}
use Rattle.periods.proofs.Common.{divides_lcm_first, divides_lcm_second, lcm_congruent}

pub related_sym : (ts : List ℕ) (s s' : ℕ → ℕ) → Related ts s s' → Related ts s' s
related_sym ts s s' h = record {
  ahead = h.behind;
  behind = h.ahead;
  more = h.fewer;
  fewer = h.more;
  same = λ q below. sym (h.same q below);
}

pub related_trans :
    (ts : List ℕ) (s s' s'' : ℕ → ℕ) → Related ts s s' → Related ts s' s'' → Related ts s s''
related_trans ts s s' s'' h k = record {
  ahead = h.ahead + k.ahead;
  behind = h.behind + k.behind;
  more = λ q. h.more q + k.more q;
  fewer = λ q. h.fewer q + k.fewer q;
  same = λ q below. omega (arith, h.same q below, k.same q below);
}

-- starts s, all of them put off by a multiple of m, are starts below the radices and whole periods
record Reduced (m : ℕ) (ts : List ℕ) (s : ℕ → ℕ) : Type 0 where
  put_off : ℕ
  steps : Divides m put_off
  starts : List ℕ
  below : Below (radices m ts) starts
  periods : ℕ → ℕ
  same : (q : ℕ) → q < length ts → s q + put_off ≡ start_of starts q + periods q * get_or ts q 0

-- A start is its remainder by the radix g and j times g. By Bezout g and some multiple of m make whole periods:
-- with all starts put off by j such multiples, the remainder and whole periods are left.
-- What later tasks are put off by is a multiple of this period too, and changes nothing here.
reduce : (m : ℕ) (ts : List ℕ) (s : ℕ → ℕ) → Proper ts → Reduced m ts s
reduce m [] s proper = record {
  put_off = 0;
  steps = (0, omega arith);
  starts = [];
  below = tt;
  periods = λ q. 0;
  same = λ q h. absurd (omega arith);
}
reduce m (t ∷ ts) s proper =
    let pos = (proper 0 (omega arith)).0 in
    let g = gcd t m in
    let j = s 0 / g in
    let (y, x, e) = gcd_difference t m pos in
    let first = m * x * j in
    let later = reduce (lcm m t) ts (λ q. s (suc q) + first) (λ q below. proper (suc q) (omega arith)) in
    let whole = divides_trans t (lcm m t) later.put_off (divides_lcm_second m t) later.steps in
    record {
      put_off = first + later.put_off;
      steps =
          divides_sum m first later.put_off (x * j, omega arith)
          (divides_trans m (lcm m t) later.put_off (divides_lcm_first m t) later.steps);
      starts = s 0 % g ∷ later.starts;
      below = (mod-lt (s 0) (gcd_pos t m pos), later.below);
      periods = elim [ zero ↦ y * j + whole.0 | suc q ↦ later.periods q ];
      same =
          elim [
            | zero ↦ (λ h. omega (arith, whole.1, ap (λ n. n * j) e))
            | suc q ↦ (λ h. omega (arith, later.same q (omega arith)))
          ];
    }

-- two lists of starts below the radices are equal if they agree up to whole periods and two numbers
-- that differ by a multiple of m
same_starts :
    (m : ℕ) (ts ss ss' : List ℕ) (a b : ℕ) →
    Below (radices m ts) ss → Below (radices m ts) ss' → Congruent m a b →
    ((q : ℕ) → q < length ts → Congruent (get_or ts q 0) (start_of ss q + a) (start_of ss' q + b)) → ss ≡ ss'
same_starts m [] [] [] a b h h' c e = refl
same_starts m [] [] (s' ∷ ss') a b h h' c e = absurd h'
same_starts m [] (s ∷ ss) ss' a b h h' c e = absurd h
same_starts m (t ∷ ts) [] ss' a b h h' c e = absurd h
same_starts m (t ∷ ts) (s ∷ ss) [] a b h h' c e = absurd h'
same_starts m (t ∷ ts) (s ∷ ss) (s' ∷ ss') a b h h' c e =
    let g = gcd t m in
    let greatest = gcd_greatest t m in
    let here : Congruent t (s + a) (s' + b) = e 0 (omega arith) in
    let first =
    congruent_below g s s' h.0 h'.0
    (congruent_rest g s s' a b (congruent_divisor g t (s + a) (s' + b) greatest.divides_first here)
    (congruent_divisor g m a b greatest.divides_second c)) in
    let whole : Congruent t a b = (here.0, here.1, omega (arith, first, here.2)) in
    ap₂ ◌∷◌ first
    (same_starts (lcm m t) ts ss ss' a b h.1 h'.1 (lcm_congruent m t a b c whole)
    (λ q below. e (suc q) (omega arith)))

pub one_listed_choice : (ts : List ℕ) → Proper ts → OneListedChoice ts
one_listed_choice ts proper s =
    let found = reduce 1 ts s proper in
    let related : Related ts s (start_of found.starts) = record {
      ahead = found.put_off;
      behind = 0;
      more = λ q. 0;
      fewer = found.periods;
      same = λ q below. omega (arith, found.same q below);
    } in (
      found.starts,
      found.below,
      related,
      λ other listed h.
          let back = related_sym ts s (start_of other) h in
          let both = related_trans ts (start_of other) s (start_of found.starts) back related in
          same_starts 1 ts other found.starts both.ahead both.behind listed found.below
          (both.behind, both.ahead, omega arith) (λ q below. (both.more q, both.fewer q, both.same q below)),
    )
