-- A list in which one item is written, or added.
use Rattle.std.proofs.Common.{◌≡◌, ℕ, ◌<◌, Bool, true, false, cond, eqb, ◌⊎◌, List, [], ◌∷◌, ◌++◌, length, get_or, set, sym, refl, ap, ◌∙◌, inl, inr, length-append, arith}
use Rattle.std.proofs.Math.Seq.{get_or-append_seam}
use Rattle.std.proofs.lemmas.List.{get_or-set_same, get_or-set_other, get_or_append_left, get_or_past}
use Rattle.std.proofs.lemmas.Bool.{cases_eq, cases_order, cond-true, cond-false, eq-eqb, ne_eqb}
use Rattle.runner.specs.declared.level.Level.{Level}

module _ {X : Type 0} where
  pub get_d_set : (xs : List X) (i : ℕ) (v : X) (l : ℕ) (d : X) → i < length xs → get_or (set xs i v) l d ≡ cond (eqb l i) v (get_or xs l d)
  get_d_set xs i v l d room = go (cases_eq l i)
    where
      go : (l ≡ i) ⊎ (l ≡ i → ⊥) → get_or (set xs i v) l d ≡ cond (eqb l i) v (get_or xs l d)
      go (inl e) =
          ap (λ k. get_or (set xs i v) k d) e ∙ get_or-set_same xs i v d room ∙ sym (cond-true (eqb l i) _ _ (eq-eqb l i e))
      go (inr ne) = get_or-set_other xs i l v d ne ∙ sym (cond-false (eqb l i) _ _ (ne_eqb l i ne))

  pub get_d_push : (xs : List X) (v : X) (l : ℕ) (d : X) → get_or (xs ++ v ∷ []) l d ≡ cond (eqb l (length xs)) v (get_or xs l d)
  get_d_push xs v l d = go (cases_order l (length xs))
    where
      go :
          (l ≡ length xs) ⊎ ((l < length xs) ⊎ (length xs < l)) →
          get_or (xs ++ v ∷ []) l d ≡ cond (eqb l (length xs)) v (get_or xs l d)
      go (inl e) =
          ap (λ k. get_or (xs ++ v ∷ []) k d) e ∙ get_or-append_seam xs v [] d ∙ sym (cond-true (eqb l (length xs)) _ _ (eq-eqb l (length xs) e))
      go (inr (inl before)) =
          get_or_append_left xs (v ∷ []) d l before ∙ sym (cond-false (eqb l (length xs)) _ _ (ne_eqb l (length xs) (λ e. omega arith)))
      go (inr (inr beyond)) =
          get_or_past (xs ++ v ∷ []) l d (omega (arith, length-append xs (v ∷ []))) ∙ sym (get_or_past xs l d (omega arith))
          ∙ sym (cond-false (eqb l (length xs)) _ _ (ne_eqb l (length xs) (λ e. omega arith)))

-- what a function reads of either of two levels
pub of_either : {B : Type 0} (f : Level → B) (b : Bool) (x y : Level) → f (cond b x y) ≡ cond b (f x) (f y)
of_either f true x y = refl
of_either f false x y = refl

pub either_same : {B : Type 0} (b : Bool) (x : B) → cond b x x ≡ x
either_same true x = refl
either_same false x = refl
