-- From tasks on levels to two demands: that of the tasks above one, together, and its own.
use Rattle.std.proofs.Common.{◌≡◌, ℕ, zero, suc, ◌+◌, ◌-◌, ◌*◌, ◌/◌, ◌%◌, ◌<◌, ◌≤◌, Bool, cond, eqb, ltb, ◌⊎◌, List, length, sym, refl, ap, ◌∙◌, inl, inr, mod-lt, add-mul, div-add-mod', zero-mul, arith}
use native.Mathlib.Nat.{div-eq_of_lt}
use Rattle.std.proofs.lemmas.Bool.Decides.{nat_tests}
use Rattle.std.proofs.lemmas.Bool.{cases_eq, eq-eqb, ne_eqb, cond-true, cond-false}
use Rattle.tasks.specs.declared.figures.Figures.{Figures}
use Rattle.timeline.specs.Processor.{sum_below}
use Rattle.timeline.specs.Requests.{requested}
use Rattle.timeline.specs.Timeline.{task_at, demanded, demands, request_of, done_by}
use Rattle.timeline.specs.Laws.{Alone}
use Rattle.timeline.proofs.Backlog.{backlog, both, sum_below_none, sum_below_same}
use Rattle.timeline.proofs.Members.{joint, sum_exchange}
use Rattle.timeline.proofs.Streams.{up_to_within, up_to_request}
use Rattle.timeline.proofs.Lateness.{due, due_at, Behind, done_gap}

-- a level is one of those above another exactly if it is smaller
pub picked : (v n x : ℕ) → sum_below (λ l. cond (eqb v l) x 0) n ≡ cond (ltb v n) x 0
picked v zero x = grind (arith, nat_tests)
picked v (suc n) x = let ih = picked v n x in grind (arith, nat_tests)

-- a sum with one part that counts
pub single : (f : ℕ → ℕ) (q n : ℕ) → q < n → ((p : ℕ) → p < n → (p ≡ q → ⊥) → f p ≡ 0) → sum_below f n ≡ f q
single f q zero l none = absurd (omega arith)
single f q (suc n) l none = go (cases_eq q n) (λ l'. single f q n l' (λ p lp ne. none p (omega arith) ne))
  where
    go : (q ≡ n) ⊎ (q ≡ n → ⊥) → (q < n → sum_below f n ≡ f q) → sum_below f (suc n) ≡ f q
    go (inl e) _ =
        let others = sum_below_same f (λ p. 0) n (λ p lp. none p (omega arith) (λ s. omega arith)) ∙ sum_below_none n in
        let own = ap f e in
        omega arith
    go (inr ne) ih = let i = ih (omega arith) in let z = none n (omega arith) (λ s. ne (sym s)) in omega arith

-- the demand of the levels above a level is that of the tasks on them
pub above_level :
    (tasks : List Figures) (starts levels : ℕ → ℕ) (level τ : ℕ) →
    sum_below (λ l. demands tasks starts levels l τ) level ≡ joint (λ p. ltb (levels p) level) (demanded tasks starts) (length tasks) τ
above_level tasks starts levels level τ =
    sum_exchange (λ l p. cond (eqb (levels p) l) (demanded tasks starts p τ) 0) level (length tasks)
    ∙ sum_below_same _ _ (length tasks) (λ p l. picked (levels p) level (demanded tasks starts p τ))

-- those above a place
abbrev pub higher : (ℕ → ℕ) → ℕ → ℕ → Bool
higher levels q p = ltb (levels p) (levels q)

module _ (tasks : List Figures) (starts levels : ℕ → ℕ) (q : ℕ) where
  -- the demand of those above, together, and one's own
  abbrev pub above_of : ℕ → ℕ
  above_of τ = joint (higher levels q) (demanded tasks starts) (length tasks) τ

  abbrev pub own_of : ℕ → ℕ
  own_of τ = demanded tasks starts q τ

  pub above_is : (τ : ℕ) → sum_below (λ l. demands tasks starts levels l τ) (levels q) ≡ above_of τ
  above_is τ = above_level tasks starts levels (levels q) τ

  pub own_is : q < length tasks → Alone tasks levels q → (τ : ℕ) → demands tasks starts levels (levels q) τ ≡ own_of τ
  own_is inside alone τ =
      single (λ p. cond (eqb (levels p) (levels q)) (demanded tasks starts p τ) 0) q (length tasks) inside
      (λ p l ne. cond-false (eqb (levels p) (levels q)) _ _ (ne_eqb (levels p) (levels q) (λ e. ne (alone p l e))))
      ∙ cond-true (eqb (levels q) (levels q)) _ _ (eq-eqb (levels q) (levels q) refl)

  pub done_is :
      q < length tasks → Alone tasks levels q → (τ : ℕ) →
      done_by tasks starts levels q τ + backlog (both above_of own_of) τ ≡ sum_below own_of τ + backlog above_of τ
  done_is inside alone τ =
      let e = done_gap (demands tasks starts levels) (levels q) above_of own_of above_is (own_is inside alone) τ in
      let s = sum_below_same (demands tasks starts levels (levels q)) own_of τ (λ σ l. own_is inside alone σ) in
      omega arith

-- the units of requests that fall after one, within R ticks of it
abbrev pub after : ℕ → ℕ → ℕ → ℕ
after c t R = (R - 1) / t * c

pub after_none : (c t R : ℕ) → 0 < R → R ≤ t → after c t R ≡ 0
after_none c t R pos le =
    let small : R - 1 < t = omega arith in ap (λ x. x * c) (div-eq_of_lt small) ∙ zero-mul c

pub come_within : (c t o R k : ℕ) → 0 < t → 0 < R → sum_below (requested c t o) (due t o R (suc k)) ≡ suc k * c + after c t R
come_within c t o R k tpos Rpos =
    let e = (R - 1) / t in
    let ρ = suc ((R - 1) % t) in
    let parts = div-add-mod' (R - 1) t in
    let small = mod-lt (R - 1) tpos in
    let m = add-mul k e t in
    let at : due t o R (suc k) ≡ o + (k + e) * t + ρ = let d = due_at t o R k in omega arith in
    let sum = ap (sum_below (requested c t o)) at ∙ up_to_within c t o (k + e) ρ (omega arith) small (up_to_request c t o (k + e) tpos) in
    let many : suc (k + e) * c ≡ suc k * c + e * c = let x : suc (k + e) ≡ suc k + e = omega arith in ap (λ y. y * c) x ∙ add-mul (suc k) e c in
    sum ∙ many

-- Request k is not done within R ticks exactly if more is left than later requests have brought.
module _ (tasks : List Figures) (starts levels : ℕ → ℕ) (q : ℕ) (inside : q < length tasks) (alone : Alone tasks levels q)
    (tpos : 0 < (task_at tasks q).period) where
  abbrev work_of : ℕ
  work_of = (task_at tasks q).work

  abbrev period_of : ℕ
  period_of = (task_at tasks q).period

  pub undone_behind :
      (R k : ℕ) → 0 < R → done_by tasks starts levels q (request_of tasks starts q (suc k) + R) < suc k * work_of →
      Behind (after work_of period_of R) (above_of tasks starts levels q) (own_of tasks starts levels q) (due period_of (starts q) R (suc k))
  undone_behind R k pos late =
      let e = done_is tasks starts levels q inside alone (due period_of (starts q) R (suc k)) in
      let s = come_within work_of period_of (starts q) R k tpos pos in
      omega arith

  pub behind_undone :
      (R k : ℕ) → 0 < R →
      Behind (after work_of period_of R) (above_of tasks starts levels q) (own_of tasks starts levels q) (due period_of (starts q) R (suc k)) →
      done_by tasks starts levels q (request_of tasks starts q (suc k) + R) < suc k * work_of
  behind_undone R k pos late =
      let e = done_is tasks starts levels q inside alone (due period_of (starts q) R (suc k)) in
      let s = come_within work_of period_of (starts q) R k tpos pos in
      omega arith
