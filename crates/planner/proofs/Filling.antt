-- Filling the positions of an order by trials, against any lawful judge.
use Rattle.std.proofs.Common.{◌≡◌, ℕ, zero, suc, ◌+◌, ◌<◌, ◌≤◌, Bool, true, false, ltb, List, length, sym, ap, ◌∙◌, subst, inl, inr, arith}
use Rattle.std.specs.List.{swap}
use Rattle.std.proofs.lemmas.Bool.{cases_lt, cases_eq}
use Rattle.std.proofs.lemmas.Bool.Decides.{nat_tests}
use Rattle.tasks.specs.declared.case.Case.{Case}
use Rattle.tasks.specs.declared.figures.Figures.{Figures}
use Rattle.tasks.specs.declared.judged.Judged.{Judged}
use Rattle.tasks.specs.Places.{has}
use Rattle.timeline.specs.Laws.{AllFair}
use Rattle.judges.specs.Meaning.{Meaning, Lawful, Rules, MeaningAt, tasks_of, starts_of}
use Rattle.planner.specs.declared.order.Order.{Order}
use Rattle.planner.specs.Filling.{up_to, PassesAt, FilledFrom}
use Rattle.planner.specs.Orders.{Levels, Passes, NonePasses, Exchanged, places_of, place_at, position_of, level_of}
use Rattle.planner.specs.Positions.{place_in, position_in}
use Rattle.planner.proofs.Exchanges.{places_exchanged, length_after}
use Rattle.planner.proofs.Fairness.{case_fair}
use Rattle.planner.proofs.Positions.{other, exchanged_at, position_exchanged}

rules_same : (r : Bool) (P Q : Type 0) → (P → Q) → (Q → P) → Rules r P → Rules r Q
rules_same true P Q there back rule = there rule
rules_same false P Q there back rule = λ q. rule (back q)

-- the levels of an order are levels
pub order_levels : (n : ℕ) (order : Order) → length (places_of order) ≡ n → Levels n (level_of order)
order_levels n order whole = record {
  least = λ place below. omega arith;
  most = λ place below. omega (arith, (order.has place (omega arith)).0);
  apart =
      λ place another below below' same.
      sym (order.has place (omega arith)).1
      ∙ ap (place_at order) (omega (arith, same))
      ∙ (order.has another (omega arith)).1;
}

-- the position up to k with the greatest value
up_to_next : (f : ℕ → ℕ) (k most : ℕ) → ((l : ℕ) → l ≤ k → f l ≤ most) → f (suc k) ≤ most → (l : ℕ) → l ≤ suc k → f l ≤ most
up_to_next f k most before here l below =
    elim (cases_eq l (suc k)) [ inl is ↦ omega (arith, ap f is) | inr not ↦ before l (omega arith) ]

greatest : (f : ℕ → ℕ) (k : ℕ) → (m : ℕ) × (m ≤ k) × ((l : ℕ) → l ≤ k → f l ≤ f m)
greatest f zero = (0, omega arith, λ l below. let is : l ≡ 0 = omega arith in omega (arith, ap f is))
greatest f (suc k) =
    let (m, within, most) = greatest f k in
    elim (cases_lt (f m) (f (suc k))) [
      | inl more ↦ (suc k, omega arith, up_to_next f k (f (suc k)) (λ l below. omega (arith, most l below)) (omega arith))
      | inr less ↦ (m, omega arith, up_to_next f k (f m) most less)
    ]

-- an exchange moves two places, and keeps the set of those up to a position past both
module _ (i j : ℕ) (before after : Order) (moved : Exchanged i j before after) (i_in : i < length (places_of before))
    (j_in : j < length (places_of before)) where
  at_moved : places_of after ≡ swap (places_of before) i j
  at_moved = let e = places_exchanged i j before after moved in grind (arith, nat_tests)

  place_moved : (l : ℕ) → place_at after l ≡ place_at before (other i j l)
  place_moved l = ap (λ at. place_in at l) at_moved ∙ exchanged_at (places_of before) i j i_in j_in l

  position_moved : (place : ℕ) → place < length (places_of before) → position_of after place ≡ other i j (position_of before place)
  position_moved place below =
      ap (λ at. position_in at place) at_moved
      ∙ position_exchanged (length (places_of before)) (places_of before) i j (omega arith) before.holds i_in j_in before.has place below

  up_to_moved :
      (k : ℕ) → i ≤ k → j ≤ k → (place : ℕ) → place < length (places_of before) → up_to after k place ≡ up_to before k place
  up_to_moved k i_to j_to place below = let e = position_moved place below in grind (arith, nat_tests)

module _ (M : Meaning) (lawful : Lawful M) (tasks : List Figures) (fair : AllFair tasks) (starts : ℕ → ℕ) where
  -- what counts as above are the other places that hold a task
  pub fewer_above :
      (judged : ℕ) (above less : ℕ → Bool) →
      ((q : ℕ) → q < length tasks → (q ≡ judged → ⊥) → less q ≡ true → above q ≡ true) →
      M tasks starts judged above → M tasks starts judged less
  fewer_above judged above less within ruling =
      lawful.fewer tasks starts judged above less fair
      (λ q h. record { held = h.held; other = h.other; chosen = within q h.held h.other h.chosen }) ruling

  -- If no place that is left passes at a position, no order passes: the one of them with the greatest level would.
  pub none_passes :
      (order : Order) (k : ℕ) → length (places_of order) ≡ length tasks → k < length tasks →
      ((place : ℕ) → place < length tasks → position_of order place ≤ k → M tasks starts place (up_to order k) → ⊥) →
      NonePasses M tasks starts
  none_passes order k whole inside refused levels are passes =
      let (m, within, most) = greatest (λ l. levels (place_at order l)) k in
      let (held, at) = order.holds m (omega arith) in
      refused (place_at order m) (omega arith) (omega arith)
      (fewer_above (place_at order m) (λ q. ltb (levels q) (levels (place_at order m))) (up_to order k)
      (λ q below differs left.
      let to : position_of order q ≤ k = grind (arith, nat_tests) in
      let least = most (position_of order q) to in
      let back : levels (place_at order (position_of order q)) ≡ levels q = ap levels (order.has q (omega arith)).1 in
      let apart : levels q ≡ levels (place_at order m) → ⊥ = λ same. differs (are.apart q (place_at order m) below (omega arith) same) in
      grind (arith, nat_tests))
      (passes (place_at order m) (omega arith)))

-- the same in a case
module _ (M : Meaning) (lawful : Lawful M) (case : Case) where
  abbrev tasks : List Figures
  tasks = tasks_of case

  abbrev starts : ℕ → ℕ
  starts = starts_of case

  fewer_in_case :
      (judged : ℕ) (above less : ℕ → Bool) →
      ((q : ℕ) → q < length tasks → (q ≡ judged → ⊥) → less q ≡ true → above q ≡ true) →
      M tasks starts judged above → M tasks starts judged less
  fewer_in_case = fewer_above M lawful tasks (case_fair case) starts

  -- the ruling on the place at a position with exactly the earlier places above
  pub asked :
      (r : Bool) (order : Order) (position : ℕ) (judged : Judged) → judged.case.now ≡ case → judged.place ≡ place_at order position →
      (above : ℕ → Bool) → has judged.above.now ≡ above → length (places_of order) ≡ length tasks → position < length (places_of order) →
      ((q : ℕ) → q < length (places_of order) → above q ≡ ltb (position_of order q) position) →
      Rules r (MeaningAt M judged) → Rules r (PassesAt M case order position)
  asked r order position judged of is above same whole inside set rule =
      rules_same r (M tasks starts (place_at order position) above) (PassesAt M case order position)
      (fewer_in_case (place_at order position) above (up_to order position)
      (λ q held differs chosen.
      let here = set q (omega arith) in
      let apart : position_of order q ≡ position → ⊥ =
      λ same. differs (sym (order.has q (omega arith)).1 ∙ ap (place_at order) same) in
      grind (arith, nat_tests)))
      (fewer_in_case (place_at order position) (up_to order position) above
      (λ q held differs chosen. let here = set q (omega arith) in grind (arith, nat_tests)))
      (subst (Rules r) (λ i. M (tasks_of (of i)) (starts_of (of i)) (is i) (same i)) rule)

  -- a trial of the place at i for the position k; before it the order is as it was at the entry
  module _
      (i k : ℕ) (entry before after : Order) (same : before ≡ entry) (whole : length (places_of entry) ≡ length tasks) (inside : k < length tasks)
      (left : i ≤ k) (trial : Exchanged i k before after) where
    moved : Exchanged i k entry after
    moved = subst (λ order. Exchanged i k order after) same trial

    moved_above : (judged l : ℕ) → k ≤ l → M tasks starts judged (up_to entry l) → M tasks starts judged (up_to after l)
    moved_above judged l later =
        fewer_in_case judged (up_to entry l) (up_to after l)
        (λ q held differs chosen.
        sym (up_to_moved i k entry after moved (omega arith) (omega arith) l (omega arith) later q (omega arith)) ∙ chosen)

    -- the place on trial passes: it takes the position
    pub fill_kept :
        (exit : Order) → exit ≡ after → FilledFrom M case entry (k + 1) → PassesAt M case after k →
        FilledFrom M case exit k
    fill_kept exit kept filled here =
        let Filled : Order → Type 0 = λ order. FilledFrom M case order k in
        subst Filled (sym kept)
        (record {
          count = length_after i k entry after moved ∙ whole;
          passes =
              λ l from to.
              elim (cases_eq l k) [
                | inl is ↦ let At : ℕ → Type 0 = PassesAt M case after in subst At (sym is) here
                | inr not ↦
                    let stays : place_at after l ≡ place_at entry l =
                    place_moved i k entry after moved (omega arith) (omega arith) l ∙ ap (place_at entry) (grind (arith, nat_tests)) in
                    let At : ℕ → Type 0 = λ place. M tasks starts place (up_to after l) in
                    subst At (sym stays) (moved_above (place_at entry l) l from (filled.passes l (omega arith) to))
              ];
        })

    -- the place on trial does not pass: it gets no with the places that are left
    pub fill_refused :
        (place : ℕ) → place < length tasks → i ≡ position_of before place → (PassesAt M case after k → ⊥) →
        M tasks starts place (up_to entry k) → ⊥
    fill_refused place held is refused ruling =
        let here : place_at after k ≡ place =
        place_moved i k entry after moved (omega arith) (omega arith) k
        ∙ ap (place_at entry) (grind (arith, nat_tests))
        ∙ ap (place_at entry) (is ∙ ap (λ order. position_of order place) same)
        ∙ (entry.has place (omega arith)).1 in
        let At : ℕ → Type 0 = λ p. M tasks starts p (up_to after k) in
        refused (subst At (sym here) (moved_above place k (omega arith) ruling))

  -- all positions are filled: the order passes
  pub filled_passes : (order : Order) → FilledFrom M case order 0 → Passes M tasks starts (level_of order)
  filled_passes order filled place held =
      let (inside, here) = order.has place (omega (arith, filled.count)) in
      let At : ℕ → Type 0 = λ p. M tasks starts p (up_to order (position_of order place)) in
      fewer_in_case place (up_to order (position_of order place)) (λ q. ltb (level_of order q) (level_of order place))
      (λ q below differs smaller. grind (arith, nat_tests))
      (subst At here (filled.passes (position_of order place) (omega arith) (omega (arith, filled.count))))
