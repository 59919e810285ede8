-- The places above a judged one, as members of sums over tasks.
use Rattle.std.specs.Prelude.{◌≡◌, ℕ, zero, suc, ◌<◌, ◌≤◌, Bool, true, false, ◌&&◌, ◌⊎◌, List, length, nat_lt, refl}
use Rattle.std.proofs.Common.{inl, inr, arith}
use Rattle.std.proofs.lemmas.Bool.{cases_lt, cases_Bool, and_parts, and_from, ltb-true, lt-ltb}
use Rattle.std.proofs.lemmas.Bool.Decides.{nat_tests}
use Rattle.periods.specs.Listed.{Related}
use Rattle.tasks.specs.declared.figures.Figures.{Figures}
use Rattle.tasks.specs.Loads.{periods_in}
use Rattle.timeline.specs.Laws.{AllFair, Alone}
use Rattle.timeline.specs.Processor.{sum_below}
use Rattle.timeline.specs.Timeline.{below_those, InTimeBelow}
use Rattle.timeline.proofs.Backlog.{sum_below_mono}
use Rattle.timeline.proofs.Levels.{higher}
use Rattle.timeline.proofs.Members.{counted}
use Rattle.timeline.proofs.Streams.{sum_rises}
use Rattle.judges.specs.Meaning.{Meaning, Above, SameAt, Lawful}

-- nobody shares the level of the judged task
pub alone_below : (tasks : List Figures) (judged : ℕ) (above : ℕ → Bool) → Alone tasks (below_those judged above) judged
alone_below tasks judged above p inside same = grind (arith, nat_tests)

-- the places on a higher level than the judged task
abbrev pub member : ℕ → (ℕ → Bool) → ℕ → Bool
member judged above = higher (below_those judged above) judged

-- they are those above
pub above_from_member :
    (tasks : List Figures) (judged : ℕ) (above : ℕ → Bool) (q : ℕ) → q < length tasks → member judged above q ≡ true →
    Above tasks judged above q
above_from_member tasks judged above q inside is =
    record { held = inside; other = λ e. grind (arith, nat_tests); chosen = grind (arith, nat_tests) }

pub member_from_above :
    (tasks : List Figures) (judged : ℕ) (above : ℕ → Bool) (q : ℕ) → Above tasks judged above q → member judged above q ≡ true
member_from_above tasks judged above q is = let o = is.other in let c = is.chosen in grind (arith, nat_tests)

-- parts past n that are nothing add nothing
no_longer : (f : ℕ → ℕ) (n m : ℕ) → ((q : ℕ) → n ≤ q → f q ≡ 0) → sum_below f m ≤ sum_below f n
no_longer f n zero none = omega arith
no_longer f n (suc m) none = go (cases_lt m n) (no_longer f n m none)
  where
    go : (m < n) ⊎ (n ≤ m) → sum_below f m ≤ sum_below f n → sum_below f (suc m) ≤ sum_below f n
    go (inl l) _ = sum_rises f (suc m) n (omega arith)
    go (inr l) ih = omega (arith, none m l)

-- a sum whose members are members of the other, with no less there, is no less
pub members_most :
    (b b' : ℕ → Bool) (v v' : ℕ → ℕ) (n n' : ℕ) →
    ((q : ℕ) → q < n → b q ≡ true → (q < n') × (b' q ≡ true) × (v q ≤ v' q)) →
    sum_below (counted b v) n ≤ sum_below (counted b' v') n'
members_most b b' v v' n n' h =
    let inside : ℕ → ℕ = counted (λ q. nat_lt q n' && b' q) v' in
    let first = sum_below_mono (counted b v) inside n (λ q l. more q (h q l)) in
    let rest = no_longer inside n' n (λ q le. grind (arith, nat_tests)) in
    let last = sum_below_mono inside (counted b' v') n' (λ q l. grind (arith, nat_tests)) in
    omega arith
  where
    more : (q : ℕ) → (b q ≡ true → (q < n') × (b' q ≡ true) × (v q ≤ v' q)) → counted b v q ≤ counted (λ q. nat_lt q n' && b' q) v' q
    more q k = go (cases_Bool (b q))
      where
        go : (b q ≡ true) ⊎ (b q ≡ false) → counted b v q ≤ counted (λ q. nat_lt q n' && b' q) v' q
        go (inl e) = let f = k e in grind (arith, nat_tests)
        go (inr e) = grind (arith, nat_tests)

-- The same judged task below fewer tasks: those above now were above before, with the same figures and starts.
pub record Fewer (tasks tasks' : List Figures) (starts starts' : ℕ → ℕ) (judged : ℕ) (above above' : ℕ → Bool) : Type 0 where
  pub inside : judged < length tasks'
  pub same : SameAt tasks tasks' starts starts' judged
  pub kept : (q : ℕ) → Above tasks' judged above' q → Above tasks judged above q × SameAt tasks tasks' starts starts' q

-- below fewer tasks a yes stays
abbrev pub Stays : Meaning → Type 0
Stays M =
    (tasks tasks' : List Figures) (starts starts' : ℕ → ℕ) (judged : ℕ) (above above' : ℕ → Bool) → AllFair tasks → AllFair tasks' →
    Fewer tasks tasks' starts starts' judged above above' → M tasks starts judged above → M tasks' starts' judged above'

-- so the laws on other tasks and on fewer tasks are one
pub lawful_if_stays :
    (M : Meaning) →
    ((tasks : List Figures) (starts : ℕ → ℕ) (judged : ℕ) (above : ℕ → Bool) → M tasks starts judged above → judged < length tasks) →
    Stays M →
    ((tasks : List Figures) (starts : ℕ → ℕ) (judged : ℕ) (above : ℕ → Bool) → AllFair tasks →
    M tasks starts judged above → InTimeBelow tasks starts judged above) →
    ((tasks : List Figures) (starts starts' : ℕ → ℕ) (judged : ℕ) (above : ℕ → Bool) → AllFair tasks →
    Related (periods_in tasks) starts starts' → M tasks starts judged above → M tasks starts' judged above) →
    Lawful M
lawful_if_stays M placed stays sound related =
    record {
      placed = placed;
      others = λ tasks tasks' starts starts' judged above above' fair fair' inside same there back.
          stays tasks tasks' starts starts' judged above above' fair fair'
          (record { inside = inside; same = same; kept = λ q is. (back q is, (there q (back q is)).1) });
      fewer = λ tasks starts judged above less fair fewer ruled.
          stays tasks tasks starts starts judged above less fair fair
          (record {
            inside = placed tasks starts judged above ruled;
            same = record { task = refl; start = refl };
            kept = λ q is. (fewer q is, record { task = refl; start = refl });
          })
          ruled;
      sound = sound;
      related = related;
    }

-- and the two give it back: take out those that are above no more, and the others do not matter
pub stays_if_lawful : (M : Meaning) → Lawful M → Stays M
stays_if_lawful M lawful tasks tasks' starts starts' judged above above' fair fair' fewer ruled =
    lawful.others tasks tasks' starts starts' judged rest above' fair fair' fewer.inside fewer.same there back
    (lawful.fewer tasks starts judged above rest fair
    (λ q is. record { held = is.held; other = is.other; chosen = (and_parts (above q) _ is.chosen).0 }) ruled)
  where
    rest : ℕ → Bool
    rest q = above q && (nat_lt q (length tasks') && above' q)

    there : (q : ℕ) → Above tasks judged rest q → Above tasks' judged above' q × SameAt tasks tasks' starts starts' q
    there q is =
        let parts = and_parts (nat_lt q (length tasks')) (above' q) (and_parts (above q) _ is.chosen).1 in
        let is' : Above tasks' judged above' q =
        record { held = ltb-true q (length tasks') parts.0; other = is.other; chosen = parts.1 } in
        (is', (fewer.kept q is').1)

    back : (q : ℕ) → Above tasks' judged above' q → Above tasks judged rest q
    back q is' =
        let is = (fewer.kept q is').0 in
        record {
          held = is.held;
          other = is.other;
          chosen = and_from (above q) _ is.chosen (and_from _ (above' q) (lt-ltb q (length tasks') is'.held) is'.chosen);
        }
