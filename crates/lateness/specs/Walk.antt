-- A walk along the members, in order of place.
use Rattle.std.specs.Prelude.{◌≡◌, ℕ, ◌+◌, ◌<◌, ◌≤◌, true, length, Some, None, Option, MatchOption, ◌≢◌}
use Rattle.lateness.specs.declared.members.Members.{Members}
use Rattle.lateness.specs.declared.members.walk.Member.{Member}
use Rattle.lateness.specs.declared.members.walk.Walk.{Walk}
use Rattle.lateness.specs.Members.{tasks_in, is_member, MemberAt}

-- no member stands from one place on before another
abbrev pub NoneBetween : Members → ℕ → ℕ → Type 0
NoneBetween m from to = (q : ℕ) → from ≤ q → q < to → is_member m q ≢ true

-- the first member from a place on, or none where no member is left
abbrev pub FirstFrom : Members → ℕ → Option Member → Type 0
FirstFrom m from r =
    MatchOption r (NoneBetween m from (length (tasks_in m)))
    (λ member. (from ≤ member.place) × NoneBetween m from member.place × MemberAt m member.place (Some member.timed))

-- the next member, and the walk stands behind it
abbrev pub NextMember : Walk → Option Member → Walk → Type 0
NextMember w (Some member) w' =
    FirstFrom w.members w.place (Some member) × (w'.members ≡ w.members) × (w'.place ≡ member.place + 1)
NextMember w None w' = FirstFrom w.members w.place None
