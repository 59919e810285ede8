use Rattle.std.proofs.Common.{◌≡◌, ℕ, ◌+◌, ◌<◌, ◌≤◌, max, true, List, [], ◌∷◌, length, Some, None, Option, nat_cmp, refl, sym, subst, rules, arith}
use Rattle.std.specs.Fn.{Mut, Called}
use Rattle.std.specs.Iterator.{Yields, PicksByCmp}
use Rattle.std.specs.Iterator.Adapters.{map_steps}
use Rattle.std.specs.declared.iter.Map.{Map}
use Rattle.std.specs.List.{FoldsTo}
use Rattle.std.specs.Option.{unwrap_or}
use Rattle.std.specs.Ordering.{max_by_ordering}
use Rattle.std.proofs.lemmas.List.Folds.{max_of_map}
use Rattle.periods.specs.Multiples.{longest_period}
use Rattle.tasks.proofs.Placed.{start_short}
use Rattle.lateness.specs.declared.members.Members.{Members}
use Rattle.lateness.specs.declared.members.walk.Member.{Member}
use Rattle.lateness.specs.declared.members.walk.Walk.{Walk}
use Rattle.lateness.specs.Members.{tasks_in, starts_in, is_member, StartsBy}
use Rattle.lateness.specs.Walk.{NextMember}
use Rattle.lateness.proofs.Gathered.{members_more}
use Rattle.lateness.proofs.Walked.{Along, here, goes_along, reaches, ends}
use Rattle.lateness.proofs.members.Members.latest_start.Goals as goal

-- no member before a place starts after a tick
abbrev StartedBy : Members → ℕ → ℕ → Type 0
StartedBy m latest i = (q : ℕ) → q < i → q < length (tasks_in m) → is_member m q ≡ true → starts_in m q ≤ latest

started_rest : (m : Members) (latest i : ℕ) → (is_member m i ≡ true → ⊥) → StartedBy m latest i → StartedBy m latest (i + 1)
started_rest m latest i none before = members_more m (λ q. starts_in m q ≤ latest) i before (λ l e. absurd (none e))

-- of two starts the later is kept
abbrev Keeps : ℕ → ℕ → ℕ → Type 0
Keeps best start next = next ≡ max_by_ordering (nat_cmp best start) best start

-- A walk that gives the starts of the members.
module _ {F : Type 0} {g : Mut F (Member × Unit {0}) ℕ} (m : Members)
    (gives : (member : Member) (start : ℕ) (f f' : F) → Called g f (member, tt) start f' → start ≡ member.timed.start) where
  walked :
      (starts : List ℕ) (s t u : Map Walk F) (best latest : ℕ) → Along m s.iter → best ≤ longest_period → StartedBy m best s.iter.place →
      Yields (map_steps NextMember g) s starts t → map_steps NextMember g t None u → FoldsTo Keeps best starts latest → StartsBy m latest
  walked [] s t u best latest along short started gave end turns =
      let done = subst (λ x. NextMember x.iter None u.iter) (sym gave) end.0 in
      subst (StartsBy m) turns (record { short = short; started = λ r l e. ends m (StartedBy m best) (started_rest m best) s.iter along done started r l l e })
  walked (start ∷ starts) s t u best latest along short started gave end turns =
      let member = gave.1.0 in
      let next = gave.1.1 in
      let is = gives member start s.f gave.0.f gave.1.2 in
      let member_here = here m s.iter gave.0.iter member along next in
      let most = max_of_map (λ x. x) (best ∷ start ∷ []) in
      let kept : turns.0 ≡ max best start = omega (arith, most, turns.1) in
      walked starts gave.0 t u turns.0 latest (goes_along m s.iter gave.0.iter member along next)
      (omega (arith, start_short m.judged.case.now member.place member_here.0, member_here.3))
      (reaches m (StartedBy m turns.0) (started_rest m turns.0) (StartedBy m turns.0) s.iter gave.0.iter member along next
      (λ r l i e. omega (arith, started r l i e))
      (λ before. members_more m (λ r. starts_in m r ≤ turns.0) member.place before (λ l e. omega (arith, member_here.3))))
      gave.2 end turns.2

  started_of :
      (s : Map Walk F) (r : Option ℕ) → Along m s.iter → s.iter.place ≡ 0 → PicksByCmp (map_steps NextMember g) max_by_ordering nat_cmp s r →
      StartsBy m (unwrap_or r 0)
  started_of s None along first (u, (t, gave, end)) = walked [] s t u 0 0 along (omega arith) (λ q l. absurd (omega arith)) gave end refl
  started_of s (Some y) along first (x, xs, (u, (t, gave, end)), turns) =
      let least = max_of_map (λ n. n) (0 ∷ x ∷ []) in
      walked (x ∷ xs) s t u 0 y along (omega arith) (λ q l. absurd (omega arith)) gave end (x, omega (arith, least), turns)

pub returns : goal.returns
returns c =
    let m = c.args.self in
    subst (StartsBy m) (sym c.unwrap_or.ensures)
    (started_of m (λ member start f f' called. search rules) c.map.result c.max.result (record { members = search rules; inside = search rules }) (search rules) c.max.ensures.ran)
