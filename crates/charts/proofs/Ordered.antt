-- Late requests in order.
use Rattle.std.proofs.Common.{◌≡◌, ◌⊎◌, List, [], ◌∷◌, sym, refl, ap, ◌∙◌, subst, inl, inr, arith}
use Rattle.entries.specs.declared.LateRequest.{LateRequest}
use Rattle.charts.specs.LateRequests.{Before, In, InOrder, OneOrder}

-- not both ways
one_way : (a b : LateRequest) → Before a b → Before b a → ⊥
one_way a b (inl l) (inl m) = omega arith
one_way a b (inl l) (inr m) = omega arith
one_way a b (inr l) (inl m) = omega arith
one_way a b (inr l) (inr m) = omega arith

not_itself : (a : LateRequest) → Before a a → ⊥
not_itself a before = one_way a a before before

pub same_order :
    (P Q : LateRequest → Type 0) (entries : List LateRequest) → ((e : LateRequest) → P e → Q e) → ((e : LateRequest) → Q e → P e) →
    InOrder P entries → InOrder Q entries
same_order P Q entries to from order =
    record { rising = order.rising; only = λ e i. to e (order.only e i); all = λ e q. order.all e (from e q) }

pub none_in_order : (P : LateRequest → Type 0) → ((e : LateRequest) → P e → ⊥) → InOrder P []
none_in_order P none = record { rising = tt; only = λ e i. absurd i; all = none }

pub none_only : (P : LateRequest → Type 0) → ((e : LateRequest) → P e → ⊥) → (entries : List LateRequest) → InOrder P entries → entries ≡ []
none_only P none [] order = refl
none_only P none (e ∷ later) order = absurd (none e (order.only e (inl refl)))

-- One more request, e, before all others of which Q holds: P holds of e and of these.
module _ (P Q : LateRequest → Type 0) (e : LateRequest) (here : P e) (others : (other : LateRequest) → P other → (other ≡ e) ⊎ Q other)
    (after : (other : LateRequest) → Q other → Before e other × P other) where
  pub one_more_first : (entries : List LateRequest) → InOrder Q entries → InOrder P (e ∷ entries)
  one_more_first entries order =
      record {
        rising = (λ other i. (after other (order.only other i)).0, order.rising);
        only = λ other i. elim i [ inl same ↦ subst P (sym same) here | inr later ↦ (after other (order.only other later)).1 ];
        all = λ other p. elim (others other p) [ inl same ↦ inl same | inr q ↦ inr (order.all other q) ];
      }

  first_is : (first : LateRequest) (later : List LateRequest) → InOrder P (first ∷ later) → first ≡ e
  first_is first later order = go (others first (order.only first (inl refl))) (order.all e here)
    where
      go : (first ≡ e) ⊎ Q first → (e ≡ first) ⊎ In e later → first ≡ e
      go (inl same) _ = same
      go (inr q) (inl same) = sym same
      go (inr q) (inr i) = absurd (one_way e first (after first q).0 (order.rising.0 e i))

  pub only_first : (entries : List LateRequest) → InOrder P entries → (rest : List LateRequest) × (entries ≡ e ∷ rest) × InOrder Q rest
  only_first [] order = absurd (order.all e here)
  only_first (first ∷ later) order =
      let this = first_is first later order in (
        later,
        ap (λ x. x ∷ later) this,
        record {
          rising = order.rising.1;
          only = λ other i. elim (others other (order.only other (inr i))) [
            | inl same ↦ absurd (not_itself e (subst (λ x. Before x e) this (subst (Before first) same (order.rising.0 other i))))
            | inr q ↦ q
          ];
          all = λ other q. elim (order.all other (after other q).1) [
            | inl same ↦ absurd (not_itself e (subst (Before e) (same ∙ this) (after other q).0))
            | inr i ↦ i
          ];
        },
      )

pub one_order : (P : LateRequest → Type 0) → OneOrder P
unfolding only_first
one_order P [] [] order other = refl
one_order P [] (first ∷ later) order other = absurd (order.all first (other.only first (inl refl)))
one_order P (first ∷ later) [] order other = absurd (other.all first (order.only first (inl refl)))
one_order P (first ∷ later) (first' ∷ later') order other =
    let Q : LateRequest → Type 0 = λ e. P e × Before first e in
    let here = order.only first (inl refl) in
    let others : (e : LateRequest) → P e → (e ≡ first) ⊎ Q e =
    (λ e p. elim (order.all e p) [ inl same ↦ inl same | inr i ↦ inr (p, order.rising.0 e i) ]) in
    let after : (e : LateRequest) → Q e → Before first e × P e = (λ e q. (q.1, q.0)) in
    let mine = only_first P Q first here others after (first ∷ later) order in
    let its = only_first P Q first here others after (first' ∷ later') other in
    ap (λ rest. first ∷ rest) (one_order Q later later' mine.2 its.2) ∙ sym its.1
