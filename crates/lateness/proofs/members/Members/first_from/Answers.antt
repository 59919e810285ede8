use Rattle.std.proofs.Common.{rules, ℕ, ◌+◌, ◌-◌, ◌<◌, ◌≤◌, ◌≡◌, true, length, Some, None, Option, MatchOption, sym, subst, refl, arith}
use Rattle.std.proofs.iter.Serving.{returning}
use Rattle.std.specs.Option.{option_map, IfSome, IsSomeAnd}
use Rattle.std.specs.Bool.{IsTrue}
use Rattle.std.specs.Fn.{Mut, Called}
use Rattle.tasks.specs.declared.task.TimedTask.{TimedTask}
use Rattle.std.specs.Iterator.Runs.{Run, ItemsCountUp, CallKeepsClosure, AllItemsGive, IsFirstToGive, AllItems, AllItemsBelow}
use Rattle.lateness.specs.Members.{tasks_in, MemberAt}
use Rattle.lateness.specs.declared.members.Members.{Members}
use Rattle.lateness.specs.declared.members.walk.Member.{Member}
use Rattle.lateness.specs.Walk.{FirstFrom}
use Rattle.lateness.proofs.members.Members.first_from.Goals as goal

-- what a place was found to hold
abbrev Found : Members → ℕ → Option Member → Type 0
Found m place None = MemberAt m place None
Found m place (Some member) = (member.place ≡ place) × MemberAt m place (Some member.timed)

-- a place is asked, and its task told with it
asked : (m : Members) (place : ℕ) (r : Option Member) → ((o : Option TimedTask) × MemberAt m place o × (r ≡ option_map (λ timed. record { place = place; timed = timed }) o)) → Found m place r
asked m place r (None, at, is) = subst (Found m place) (sym is) at
asked m place r (Some timed, at, is) = subst (Found m place) (sym is) (refl, at)

if_some : {P Q : ℕ → Type 0} (o : Option ℕ) → ((x : ℕ) → P x → Q x) → IfSome o P → IfSome o Q
if_some None f h = h
if_some (Some x) f h = f x h

is_some_and : {P Q : ℕ → Type 0} (o : Option ℕ) → ((x : ℕ) → P x → Q x) → IsSomeAnd o P → IsSomeAnd o Q
is_some_and None f h = h
is_some_and (Some x) f h = f x h

module _ {S : Type 0} {steps : S → Option ℕ → S → Type 0} (m : Members) (from : ℕ) (p : Run steps) (up : ItemsCountUp p from (length (tasks_in m))) where
  same : (o : Option ℕ) (x : ℕ) → option_map (λ y. y) o ≡ Some x → o ≡ Some x
  same None x e = e
  same (Some y) x e = e

  at_place : (q : ℕ) → from ≤ q → q < from + p.len → p.at (q - from) ≡ Some q
  at_place q low high = let e : from + (q - from) ≡ q = omega arith in subst (λ x. p.at (q - from) ≡ Some x) e (same _ _ (up.3 (q - from) (omega arith)))

  found : (r : Option Member) → MatchOption r ((p.whole ≡ true) × AllItems p (λ x. Found m x None)) (λ y. (i : ℕ) × (p.len ≡ i + 1) × IsSomeAnd (p.at i) (λ x. Found m x (Some y)) × AllItemsBelow p i (λ x. Found m x None)) → FirstFrom m from r
  found None h = λ q low high. let long = up.1 h.0 in subst (λ o. IfSome o (λ x. Found m x None)) (at_place q low (omega arith)) (h.1 (q - from)) high
  found (Some y) h =
      let e = at_place (from + h.0) (omega arith) (omega (arith, h.1)) in
      let here = subst (λ o. IsSomeAnd o (λ x. Found m x (Some y))) (subst (λ k. p.at k ≡ Some (from + h.0)) (omega arith) e) h.2 in
      let place = here.0 in (
        omega arith,
        (λ q low high. subst (λ o. IsSomeAnd o (λ x. Found m x None)) (at_place q low (omega (arith, h.1))) (h.3 (q - from) (omega arith)) (let inside = here.1.0 in omega arith)),
        subst (λ x. MemberAt m x (Some y.timed)) (sym place) here.1,
      )

  module _ {F : Type 0} {g : Mut F (ℕ × Unit {0}) (Option Member)} {f : F} where
    told :
        (r : Option Member) → MatchOption r (IsTrue p.whole × AllItemsGive p g f None) (λ y. (i : ℕ) × (i < p.len) × (p.len ≡ i + 1) × IsFirstToGive p g f (Some y) None i) →
        CallKeepsClosure g f → ((x : ℕ) (o : Option Member) → Called g f (x, tt) o f → Found m x o) → FirstFrom m from r
    told None h keeps asks = found None (h.0, λ k. if_some (p.at k) (λ x. asks x None) (h.1 keeps k))
    told (Some y) h keeps asks =
        let first = h.3 keeps in
        found (Some y) (h.0, h.2, is_some_and (p.at h.0) (λ x. asks x (Some y)) first.0, λ k l. is_some_and (p.at k) (λ x. asks x None) (first.1 k l))

pub returns : goal.returns
returns c =
    let run = c.find_map.ensures.runs in
    let m = c.args.self.now in
    let up : ItemsCountUp run.0 c.args.from (length (tasks_in m)) = search (rules, returning) in
    told m c.args.from run.0 up c.find_map.result run.2 (λ a r f' called. search rules) (λ x o called. asked m x o (search rules))
