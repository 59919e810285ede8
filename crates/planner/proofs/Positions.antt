-- Positions in a list of places, and what an exchange of two of them leaves.
use Rattle.std.proofs.Common.{◌≡◌, ℕ, zero, suc, ◌+◌, ◌<◌, ◌≤◌, ◌==◌, ◌&&◌, cond, eqb, ltb, List, [], ◌∷◌, ◌++◌, length, Some, None, sym, refl, ap, ◌∙◌, subst, inl, inr, arith}
use Rattle.std.specs.List.{range_with_len, swap}
use Rattle.std.proofs.lemmas.Bool.{cases_lt, cond_both}
use Rattle.std.proofs.lemmas.List.Edits.{swapped_from_swap, length-swap}
use Rattle.std.proofs.lemmas.List.Sums.{position_or_len_is}
use Rattle.std.proofs.lemmas.Bool.Decides.{nat_tests}
use Rattle.planner.specs.Positions.{place_in, position_in, exchanged, LeadsBack}

-- what is answered up to a bound, and only there
pub answered_below :
    {A : Type 0} (answer value : A) (k n : ℕ) → Some answer ≡ cond (ltb k n) (Some value) None → (k < n) × (answer ≡ value)
answered_below answer value k n is = (grind (arith, nat_tests), grind (arith, nat_tests))

-- where the place at a position goes, and comes from, when two positions are exchanged
abbrev pub other : ℕ → ℕ → ℕ → ℕ
other i j k = cond (eqb k i) j (cond (eqb k j) i k)

other_back : (i j k : ℕ) → other i j (other i j k) ≡ k
other_back i j k = grind (arith, nat_tests)

position_first :
    (at : List ℕ) (place k : ℕ) → k < length at → place_in at k ≡ place →
    ((l : ℕ) → l < k → place_in at l ≡ place → ⊥) → position_in at place ≡ k
position_first at place k inside here first =
    position_or_len_is (λ held. held == place) at k 0 (omega arith)
    (λ l below. let differs = first l below in grind (arith, nat_tests)) (λ _. grind (arith, nat_tests))

module _ (at : List ℕ) (i j : ℕ) (i_in : i < length at) (j_in : j < length at) where
  pub exchanged_at : (k : ℕ) → place_in (swap at i j) k ≡ place_in at (other i j k)
  exchanged_at k =
      let moved = swapped_from_swap at (swap at i j) i j 0 i_in j_in refl in
      grind (arith, nat_tests, moved.0, moved.1, moved.2 k)

-- an exchange keeps places and positions one to one
module _
    (n : ℕ) (at : List ℕ) (i j : ℕ) (fits : n ≤ length at) (holds : LeadsBack n (place_in at) (position_in at)) (i_in : i < n)
    (j_in : j < n) where
  other_below : (k : ℕ) → k < n → other i j k < n
  other_below k below = grind (arith, nat_tests)

  held : (k : ℕ) → place_in (swap at i j) k ≡ place_in at (other i j k)
  held k = exchanged_at at i j (omega arith) (omega arith) k

  -- two positions that hold one place are one
  one_position : (k l : ℕ) → k < n → l < n → place_in at k ≡ place_in at l → k ≡ l
  one_position k l k_in l_in same = sym (holds k k_in).1 ∙ ap (position_in at) same ∙ (holds l l_in).1

  position_held : (k : ℕ) → k < n → position_in (swap at i j) (place_in at (other i j k)) ≡ k
  position_held k below =
      position_first (swap at i j) (place_in at (other i j k)) k (omega (arith, length-swap at i j)) (held k)
      (λ l before same.
      let one : other i j l ≡ other i j k =
      one_position (other i j l) (other i j k) (other_below l (omega arith)) (other_below k below) (sym (held l) ∙ same) in
      grind (arith, nat_tests))

  pub still_holds : LeadsBack n (place_in (swap at i j)) (position_in (swap at i j))
  still_holds k below = (
    rw (held k) (holds (other i j k) (other_below k below)).0,
    rw (held k) (position_held k below),
  )

  module _ (has : LeadsBack n (position_in at) (place_in at)) (place : ℕ) (below : place < n) where
    back : place_in at (other i j (other i j (position_in at place))) ≡ place
    back = ap (place_in at) (other_back i j (position_in at place)) ∙ (has place below).1

    pub position_exchanged : position_in (swap at i j) place ≡ other i j (position_in at place)
    position_exchanged =
        ap (position_in (swap at i j)) (sym back)
        ∙ position_held (other i j (position_in at place)) (other_below (position_in at place) (has place below).0)

    pub still_has : (position_in (swap at i j) place < n) × (place_in (swap at i j) (position_in (swap at i j) place) ≡ place)
    still_has = (
      rw position_exchanged (other_below (position_in at place) (has place below).0),
      ap (place_in (swap at i j)) position_exchanged ∙ held (other i j (position_in at place)) ∙ back,
    )

-- an exchange keeps how many there are
pub length-exchanged : (i j : ℕ) (at : List ℕ) → length (exchanged i j at) ≡ length at
length-exchanged i j at = cond_both (ltb i (length at) && ltb j (length at)) _ _ (λ all. length all ≡ length at) (λ _. length-swap at i j) (λ _. refl)

range_with_len_more : (a n : ℕ) → range_with_len a (suc n) ≡ range_with_len a n ++ (a + n) ∷ []
range_with_len_more a zero = ap (λ k. k ∷ []) (omega arith)
range_with_len_more a (suc n) =
    ap (λ all. a ∷ all) (range_with_len_more (a + 1) n ∙ ap (λ k. range_with_len (a + 1) n ++ k ∷ []) (omega arith))

-- what an exchange leaves of places that are one to one
pub kept_one_to_one :
    (i j : ℕ) (at all : List ℕ) → all ≡ exchanged i j at → LeadsBack (length at) (place_in at) (position_in at) →
    LeadsBack (length at) (position_in at) (place_in at) →
    LeadsBack (length all) (place_in all) (position_in all) × LeadsBack (length all) (position_in all) (place_in all)
kept_one_to_one i j at all is holds has = subst Kept (sym is) (elim (cases_lt i (length at)) [
  | inl i_in ↦ elim (cases_lt j (length at)) [
    | inl j_in ↦ subst Kept (grind (arith, nat_tests)) (
      subst (λ n. LeadsBack n (place_in (swap at i j)) (position_in (swap at i j))) (sym (length-swap at i j))
          (still_holds (length at) at i j (omega arith) holds i_in j_in),
      subst (λ n. LeadsBack n (position_in (swap at i j)) (place_in (swap at i j))) (sym (length-swap at i j))
          (still_has (length at) at i j (omega arith) holds i_in j_in has),
    )
    | inr past ↦ subst Kept (grind (arith, nat_tests)) (holds, has)
  ]
  | inr past ↦ subst Kept (grind (arith, nat_tests)) (holds, has)
])
  where
    Kept : List ℕ → Type 0
    Kept ys = LeadsBack (length ys) (place_in ys) (position_in ys) × LeadsBack (length ys) (position_in ys) (place_in ys)

-- the places in their own order
module _ (at : List ℕ) (own : (k : ℕ) → k < length at → place_in at k ≡ k) where
  position_own : (place : ℕ) → place < length at → position_in at place ≡ place
  position_own place below =
      position_first at place place below (own place below) (λ l before same. omega (arith, own l (omega arith), same))

  pub own_holds : LeadsBack (length at) (place_in at) (position_in at)
  own_holds k below = let here = own k below in (omega (arith, here), ap (position_in at) here ∙ position_own k below)

  pub own_has : LeadsBack (length at) (position_in at) (place_in at)
  own_has place below =
      let here = position_own place below in (omega (arith, here), ap (place_in at) here ∙ own place below)
