-- A walk along the members: what each place keeps is kept up to the next member, and up to the end.
use Rattle.std.proofs.Common.{◌≡◌, ℕ, zero, suc, ◌+◌, ◌≤◌, true, length, Some, None, subst, ◌∙◌, sym, inl, inr, add-one, arith}
use Rattle.std.proofs.lemmas.Bool.{cases_lt}
use Rattle.lateness.specs.declared.members.Members.{Members}
use Rattle.lateness.specs.declared.members.walk.Member.{Member}
use Rattle.lateness.specs.declared.members.walk.Walk.{Walk}
use Rattle.lateness.specs.Members.{tasks_in, is_member, MemberAt}
use Rattle.lateness.specs.Walk.{NoneBetween, FirstFrom, NextMember}

module _ (m : Members) where
  -- a walk along these members
  pub record Along (w : Walk) : Type 0 where
    pub members : w.members ≡ m
    pub inside : w.place ≤ length (tasks_in m)

  -- The walk gives a member.
  module _ (w w' : Walk) (member : Member) (along : Along w) (next : NextMember w (Some member) w') where
    first : FirstFrom m w.place (Some member)
    first = subst (λ ms. FirstFrom ms w.place (Some member)) along.members next.0

    pub here : MemberAt m member.place (Some member.timed)
    here = first.2

    pub goes_along : Along w'
    goes_along = let inside = here.0 in record { members = next.1 ∙ along.members; inside = omega (arith, next.2) }

  -- A fact that each place hands on which holds no member.
  module _ (P : ℕ → Type 0) (rest : (i : ℕ) → (is_member m i ≡ true → ⊥) → P i → P (i + 1)) where
    passes : (from to : ℕ) → from ≤ to → NoneBetween m from to → P from → P to
    passes from zero le none p = let e : from ≡ 0 = omega arith in subst P e p
    passes from (suc to) le none p =
        elim (cases_lt to from) [
          | inl past ↦ let e : from ≡ suc to = omega arith in subst P e p
          | inr inside ↦
              let e : to + 1 ≡ suc to = add-one to in
              subst P e (rest to (none to inside (omega arith)) (passes from to inside (λ q low high. none q low (omega arith)) p))
        ]

    pub reaches :
        (Q : ℕ → Type 0) (w w' : Walk) (member : Member) → Along w → NextMember w (Some member) w' → P w.place →
        (P member.place → Q (member.place + 1)) → Q w'.place
    reaches Q w w' member along next p more =
        let first = first w w' member along next in
        subst Q (sym next.2) (more (passes w.place member.place first.0 first.1 p))

    pub ends : (w : Walk) → Along w → FirstFrom w.members w.place None → P w.place → P (length (tasks_in m))
    ends w along next p =
        passes w.place (length (tasks_in m)) along.inside (subst (λ ms. FirstFrom ms w.place None) along.members next) p
