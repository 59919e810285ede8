-- Two items of a list in each other's place.
use Rattle.std.proofs.Common.{◌≡◌, ℕ, ◌<◌, ◌≤◌, cond, ◌&&◌, ltb, List, [], ◌∷◌, get_or, set, length, take, refl, sym, ap, ap₂, ◌∙◌, inl, inr, arith}
use native.Mathlib.Bridge.{le_prop}
use native.Mathlib.Nat.{ℕ_set}
use mathlib.Core.HLevel.{is_prop→PathP}
use Rattle.std.specs.List.{swap}
use Rattle.std.proofs.Math.Seq.{take-set-lt}
use Rattle.std.proofs.lemmas.Bool.{cases_lt}
use Rattle.std.proofs.lemmas.Bool.Decides.{nat_tests}
use Rattle.std.proofs.lemmas.List.{ext_get_or, get_or-take, length-take-le}
use Rattle.std.proofs.lemmas.List.Edits.{length-swap, swap_is, swapped_from_swap}
use Rattle.short_list.specs.declared.list.ShortList.{ShortList}
use Rattle.short_list.specs.Items.{items_of, with_swapped, Swapped}

module _ {X : Type 0} where
  take-swap :
      (n : ℕ) (xs : List X) (i j : ℕ) → i < n → j < n → n ≤ length xs → take n (swap xs i j) ≡ swap (take n xs) i j
  take-swap n [] i j i_in j_in fits = absurd (omega arith)
  take-swap n (x ∷ xs) i j i_in j_in fits =
      let all = x ∷ xs in
      take-set-lt n _ j _ j_in
      ∙ ap (λ ys. set ys j (get_or all i x)) (take-set-lt n all i _ i_in)
      ∙ ap₂ (λ one other. set (set (take n all) i one) j other) (sym (get_or-take n all j x j_in)) (sym (get_or-take n all i x i_in))
      ∙ swap_is (take n all) i j x (omega (arith, length-take-le n all fits)) (omega (arith, length-take-le n all fits))

  -- the first items of a list whose items were exchanged among them
  pub taken_swapped :
      (n : ℕ) (xs ys : List X) (i j : ℕ) → i < n → j < n → n ≤ length xs → ys ≡ swap xs i j →
      take n ys ≡ with_swapped i j (take n xs)
  taken_swapped n xs ys i j i_in j_in fits is =
      let long = length-take-le n xs fits in
      let moved : take n ys ≡ swap (take n xs) i j = ap (take n) is ∙ take-swap n xs i j i_in j_in fits in
      grind (arith, nat_tests)

  swap_back : (xs : List X) (i j : ℕ) → i < length xs → j < length xs → swap (swap xs i j) i j ≡ xs
  swap_back [] i j i_in j_in = refl
  swap_back (x ∷ xs) i j i_in j_in =
      let all = x ∷ xs in
      let long = length-swap all i j in
      let there = swapped_from_swap all (swap all i j) i j x i_in j_in refl in
      let back = swapped_from_swap (swap all i j) (swap (swap all i j) i j) i j x (omega arith) (omega arith) refl in
      ext_get_or x _ _ (length-swap (swap all i j) i j ∙ long)
      (λ k inside. grind (arith, nat_tests, there.0, there.1, there.2 k, back.0, back.1, back.2 k))

  undone :
      (n m i j : ℕ) (xs ys zs : List X) → n ≤ length xs → m ≡ n →
      ys ≡ cond (ltb i n && ltb j n) (swap xs i j) xs → zs ≡ cond (ltb i m && ltb j m) (swap ys i j) ys → zs ≡ xs
  undone n m i j xs ys zs fits same there back =
      elim (cases_lt i n) [
        | inl i_in ↦ elim (cases_lt j n) [
          | inl j_in ↦ let whole = swap_back xs i j (omega arith) (omega arith) in grind (arith, nat_tests)
          | inr past ↦ grind (arith, nat_tests)
        ]
        | inr past ↦ grind (arith, nat_tests)
      ]

  module _ {N : ℕ} where
    -- a list is its slots and its length
    same_list : (a b : ShortList X N) → a.slots ≡ b.slots → a.len ≡ b.len → a ≡ b
    same_list a b slots len =
        λ i. record {
          slots = slots i;
          len = len i;
          width = is_prop→PathP (λ k. length (slots k) ≡ N) (λ k. ℕ_set _ _) a.width b.width i;
          within = is_prop→PathP (λ k. len k ≤ N) (λ k. le_prop) a.within b.within i;
        }

    -- the items of a list after a swap
    pub items_swapped :
        (i j : ℕ) (before after : ShortList X N) → Swapped i j before after → items_of after ≡ with_swapped i j (items_of before)
    items_swapped i j before after there =
        let long = length-take-le before.len before.slots (omega (arith, before.width, before.within)) in
        let same : items_of after ≡ take before.len after.slots = ap (λ n. take n after.slots) there.count in
        let is = there.slots in
        elim (cases_lt i before.len) [
          | inl i_in ↦ elim (cases_lt j before.len) [
            | inl j_in ↦
                let all : after.slots ≡ swap before.slots i j = grind (arith, nat_tests) in
                same ∙ taken_swapped before.len before.slots after.slots i j i_in j_in (omega (arith, before.width, before.within)) all
            | inr past ↦ grind (arith, nat_tests)
          ]
          | inr past ↦ grind (arith, nat_tests)
        ]

    -- a second swap of the same items gives the former list
    pub swap_ends :
        (i j : ℕ) (former before after : ShortList X N) → Swapped i j former before → Swapped i j before after → after ≡ former
    swap_ends i j former before after there back =
        same_list after former
        (undone former.len before.len i j former.slots before.slots after.slots (omega (arith, former.width, former.within)) there.count there.slots back.slots)
        (back.count ∙ there.count)
