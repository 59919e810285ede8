-- The part of a list from a place on, rotated by one.
use Rattle.std.proofs.Common.{◌≡◌, ℕ, suc, ◌-◌, ◌<◌, ◌≤◌, List, ◌++◌, length, take, drop, sym, ap, ◌∙◌, add-one, refl, arith}
use borrow.Rule.Slice.PartMut.{put_mid}
use Rattle.std.specs.List.{remove}
use Rattle.std.proofs.lemmas.List.Edits.{paste_all, length-remove}
use Rattle.std.proofs.lemmas.List.{append-nil, append_assoc, length-append, length-drop, length-take-le, take_at, drop-drop, drop_all, take_rest}
use Rattle.std.proofs.lemmas.Slice.{put_mid-paste}

module _ {X : Type 0} where
  -- the part from a place on, as the checker reads it
  abbrev pub from : ℕ → List X → List X
  from place xs = take (length xs - place) (drop place xs)

  -- a list whose part from a place on was written
  rewritten :
      (xs part zs : List X) (place : ℕ) → part ≡ zs → length xs - place ≡ length zs → place ≤ length xs →
      put_mid place (length xs - place) xs part ≡ take place xs ++ zs
  rewritten xs part zs place is long inside =
      put_mid-paste place _ xs part zs _ is refl long
      ∙ paste_all xs place zs _ long
      ∙ ap (λ ys. take place xs ++ (zs ++ ys)) (drop_all _ xs (omega arith))
      ∙ ap (λ ys. take place xs ++ ys) (append-nil zs)

  -- an element brought to the end, and left out there
  pub taken_out :
      (xs part : List X) (place : ℕ) → place < length xs → part ≡ drop 1 (from place xs) ++ take 1 (from place xs) →
      take (length xs - 1) (put_mid place (length xs - place) xs part) ≡ remove xs place
  taken_out xs part place inside is =
      let tail = take_rest xs place in
      let rest : drop 1 (drop place xs) ≡ drop (suc place) xs = drop-drop 1 place xs ∙ ap (λ n. drop n xs) (add-one place) in
      let turned : part ≡ drop (suc place) xs ++ take 1 (drop place xs) =
      is ∙ ap (λ ys. drop 1 ys ++ take 1 ys) tail ∙ ap (λ ys. ys ++ take 1 (drop place xs)) rest in
      ap (take (length xs - 1))
      (rewritten xs part _ place turned
      (omega (arith, length-append (drop (suc place) xs) (take 1 (drop place xs)), length-drop (suc place) xs, length-take-le 1 (drop place xs) (omega (arith, length-drop place xs))))
      (omega arith)
      ∙ sym (append_assoc (take place xs) (drop (suc place) xs) (take 1 (drop place xs))))
      ∙ take_at (remove xs place) _ _ (omega (arith, length-remove xs place inside))
