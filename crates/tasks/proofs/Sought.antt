-- Where a binary search for an id ends.
use Rattle.std.proofs.Common.{◌≡◌, ℕ, zero, suc, ◌+◌, ◌<◌, ◌≤◌, true, List, [], ◌∷◌, length, get_or, take, drop, Ok, Err, MatchResult, Ordering, Result, ap, subst, arith, tests}
use native.Mathlib.Decide.{dec_lt}
use Rattle.std.specs.Cmp.{ranks}
use Rattle.std.specs.List.Sorted.{IsBinarySearchResult, IsSearchInRange}
use Rattle.std.specs.Ordering.{MatchOrdering, nat_cmp, ordering_index}
use Rattle.std.proofs.ByRecursion.{all_from_every}
use Rattle.std.proofs.lemmas.List.{length-take-le, length-drop, get_or-take, get_or-drop}
use Rattle.std.proofs.lemmas.Bool.Decides.{nat_tests}
use Rattle.tasks.specs.declared.rows.Row.{Row}
use Rattle.tasks.specs.Rows.{tidy}
use Rattle.tasks.specs.Seeking.{StandsAt, BelongsAt}

least_at :
    (least i : ℕ) (d : Row) (rows : List Row) → tidy least rows ≡ true → i < length rows → least ≤ (get_or rows i d).id
least_at least i d [] ordered inside = absurd (omega arith)
least_at least zero d (row ∷ rows) ordered inside = grind (arith, nat_tests)
least_at least (suc i) d (row ∷ rows) ordered inside =
    let later = least_at (row.id + 1) i d rows in grind (arith, nat_tests)

ids_rise :
    (least i j : ℕ) (d : Row) (rows : List Row) → tidy least rows ≡ true → i < j → j < length rows →
    (get_or rows i d).id < (get_or rows j d).id
ids_rise least i j d [] ordered before inside = absurd (omega arith)
ids_rise least i zero d (row ∷ rows) ordered before inside = absurd (omega arith)
ids_rise least zero (suc j) d (row ∷ rows) ordered before inside =
    omega (arith, least_at (row.id + 1) j d rows (grind (arith, nat_tests)) (omega arith))
ids_rise least (suc i) (suc j) d (row ∷ rows) ordered before inside =
    ids_rise (row.id + 1) i j d rows (grind (arith, nat_tests)) (omega arith) (omega arith)

-- an answer of the search for an id, by what it means
sided : (id n : ℕ) (o : Ordering) → nat_cmp n id ≡ o → MatchOrdering o (n < id) (n ≡ id) (id < n)
sided id n o is = subst (λ p. MatchOrdering p (n < id) (n ≡ id) (id < n)) is (ranks n id)

climbs : (id m n : ℕ) → m ≤ n → ordering_index (nat_cmp m id) ≤ ordering_index (nat_cmp n id)
climbs id m n below = grind (arith, tests)

pub sought :
    (id : ℕ) (rows : List Row) (r : Result ℕ ℕ) → tidy 1 rows ≡ true → IsSearchInRange r (length rows) →
    IsBinarySearchResult (λ row. nat_cmp row.id id) rows r → MatchResult r (StandsAt id rows) (BelongsAt id rows)
sought id rows (Ok i) ordered inside found =
    let here : (d : Row) → (get_or rows i d).id ≡ id = λ d. sided id _ _ (found d) in
    record {
      inside = inside;
      smaller = all_from_every (λ row. row.id < id) (take i rows) (λ k d low below.
          let before : k < i = omega (arith, length-take-le i rows (omega arith)) in
          omega (arith, ap (λ row. row.id) (get_or-take i rows k d before), ids_rise 1 k i d rows ordered before inside, here d));
      here = here;
    }
sought id rows (Err i) ordered inside found =
    let parted = found (λ a b d before below. climbs id _ _ (not_less a b d before below)) in
    record {
      inside = inside;
      smaller = all_from_every (λ row. row.id < id) (take i rows) (λ k d low below.
          let before : k < i = omega (arith, length-take-le i rows inside) in
          let less : (get_or rows k d).id < id = sided id _ _ (parted.0 k d (omega arith) before) in
          omega (arith, ap (λ row. row.id) (get_or-take i rows k d before)));
      greater = all_from_every (λ row. id < row.id) (drop i rows) (λ k d low below.
          let more : id < (get_or rows (i + k) d).id = sided id _ _ (parted.1 (i + k) d (omega arith) (omega (arith, length-drop i rows))) in
          omega (arith, ap (λ row. row.id) (get_or-drop i rows k d)));
    }
  where
    not_less : (a b : ℕ) (d : Row) → a ≤ b → b < length rows → (get_or rows a d).id ≤ (get_or rows b d).id
    not_less a b d before below =
        elim (dec_lt a b) [
          | yes less ↦ omega (arith, ids_rise 1 a b d rows ordered less below)
          | no same ↦ let e : a ≡ b = omega arith in omega (arith, ap (λ n. (get_or rows n d).id) e)
        ]
