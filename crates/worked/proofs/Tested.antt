-- Tests that are computed: of all numbers below a bound, of any of them, and of a list of tests.
use Rattle.std.proofs.Common.{◌≡◌, ℕ, zero, suc, ◌<◌, Bool, true, false, not, ◌&&◌, ◌||◌, List, [], ◌∷◌, get_or, sym, refl, subst, inl, inr, arith}
use Rattle.std.proofs.lemmas.Bool.{false≢true, and_parts, or_cases, both_ways, not-true, cases_eq}

abbrev pub all_below : (ℕ → Bool) → ℕ → Bool
all_below test zero = true
all_below test (suc n) = all_below test n && test n

pub all_at : (test : ℕ → Bool) (n : ℕ) → all_below test n ≡ true → (i : ℕ) → i < n → test i ≡ true
all_at test zero all i l = absurd (omega arith)
all_at test (suc n) all i l =
    let parts = and_parts (all_below test n) (test n) all in
    elim (cases_eq i n) [
      | inl e ↦ subst (λ j. test j ≡ true) (sym e) parts.1
      | inr ne ↦ all_at test n parts.0 i (omega arith)
    ]

abbrev pub any_below : (ℕ → Bool) → ℕ → Bool
any_below test zero = false
any_below test (suc n) = any_below test n || test n

pub any_at : (test : ℕ → Bool) (n : ℕ) → any_below test n ≡ true → (i : ℕ) × (i < n) × (test i ≡ true)
any_at test zero any = absurd (false≢true any)
any_at test (suc n) any =
    elim (or_cases (any_below test n) (test n) any) [
      | inl before ↦ let (i, below, at) = any_at test n before in (i, omega arith, at)
      | inr here ↦ (n, omega arith, here)
    ]

-- each of some tests; the one at a place is read off by its number
abbrev pub all_hold : List Bool → Bool
all_hold [] = true
all_hold (test ∷ tests) = test && all_hold tests

pub holds : (tests : List Bool) → all_hold tests ≡ true → (i : ℕ) → get_or tests i true ≡ true
holds [] all i = refl
holds (test ∷ tests) all zero = (and_parts test (all_hold tests) all).0
holds (test ∷ tests) all (suc i) = holds tests (and_parts test (all_hold tests) all).1 i

-- an implication as a test
abbrev pub implies : Bool → Bool → Bool
implies a b = not a || b

pub implied : (a b : Bool) → implies a b ≡ true → a ≡ true → b ≡ true
implied a b e h =
    elim (or_cases (not a) b e) [ inl wrong ↦ absurd (both_ways a (not-true a wrong) h) | inr right ↦ right ]
