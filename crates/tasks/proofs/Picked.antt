-- An array that a function has filled, place by place.
use Rattle.std.proofs.Common.{◌≡◌, ℕ, zero, suc, ◌+◌, ◌<◌, ◌≤◌, List, get_or, inl, inr, subst, sym, arith}
use Rattle.std.proofs.lemmas.Bool.{cases_eq}
use Rattle.std.specs.Array.{IsFromFnResultFrom}
use Rattle.std.specs.Fn.{Called, Mut}

-- where each call leaves the function as it is and gives what P says, P holds at each place
module _ {F B : Type 0} (g : Mut F (ℕ × Unit {0}) B) (f : F) (ys : List B) (P : ℕ → B → Type 0)
    (keeps : (i : ℕ) (y : B) (q : F) → Called g f (i, tt) y q → (q ≡ f) × P i y) where
  pub filled_by : (n i : ℕ) → IsFromFnResultFrom g f ys i n → (k : ℕ) (d : B) → i ≤ k → k < i + n → P k (get_or ys k d)
  filled_by zero i made k d low high = absurd (omega arith)
  filled_by (suc n) i made k d low high =
      let call = keeps i made.1 made.0 made.3 in
      elim (cases_eq k i) [
        | inl here ↦ subst (λ m. P m (get_or ys m d)) (sym here) (subst (P i) (sym (made.2.1 d)) call.1)
        | inr apart ↦ filled_by n (i + 1) (subst (λ q. IsFromFnResultFrom g q ys (i + 1) n) call.0 made.4) k d (omega arith) (omega arith)
      ]
