-- A task below others: its request is late exactly where a backlog of all passes the backlog of those above.
use Rattle.std.proofs.Common.{◌≡◌, ℕ, zero, suc, ◌+◌, ◌-◌, ◌*◌, ◌<◌, ◌≤◌, ◌⊎◌, refl, ap, ◌∙◌, subst, inl, inr, mul-le-mul_right, suc-mul, add-mul, one-mul, arith}
use Rattle.std.proofs.lemmas.Bool.{cases_lt, cases_eq}
use Rattle.timeline.specs.Processor.{Demands, sum_below, owing, done}
use Rattle.timeline.specs.Requests.{request_tick, requested}
use Rattle.timeline.proofs.Backlog.{backlog, both, since, sum_below_add, above-owing, same_demand}
use Rattle.timeline.proofs.Repeats.{Light, Periodic, both_periodic, repeats}
use Rattle.timeline.proofs.Streams.{up_to_within, up_to_request, stream_periodic}

-- the tick by which request k is to be done
abbrev pub due : ℕ → ℕ → ℕ → ℕ → ℕ
due t o d k = request_tick o t k + d

-- more than b units of the demand g are left at a tick, below the demand f
abbrev pub Behind : ℕ → (ℕ → ℕ) → (ℕ → ℕ) → ℕ → Type 0
Behind b f g τ = backlog f τ + b < backlog (both f g) τ

pub behind_dec : (b : ℕ) (f g : ℕ → ℕ) (τ : ℕ) → Behind b f g τ ⊎ (backlog (both f g) τ ≤ backlog f τ + b)
behind_dec b f g τ = cases_lt (backlog f τ + b) (backlog (both f g) τ)

pub due_more : (t o d j k : ℕ) → due t o d (suc k + j) ≡ j * t + due t o d (suc k)
due_more t o d j k =
    let e : (suc k + j) - 1 ≡ j + k = omega arith in
    let e' : suc k - 1 ≡ k = omega arith in
    let m = ap (λ n. n * t) e ∙ add-mul j k t in
    let m' = ap (λ n. n * t) e' in
    omega arith

pub due_at : (t o d k : ℕ) → due t o d (suc k) ≡ o + k * t + d
due_at t o d k = let m = ap (λ n. n * t) (let e : suc k - 1 ≡ k = omega arith in e) in omega arith

-- by the due tick of request k the units of k requests have come
pub come_by_due : (c t o d k : ℕ) → 0 < d → d ≤ t → sum_below (requested c t o) (due t o d (suc k)) ≡ suc k * c
come_by_due c t o d k pos le =
    ap (sum_below (requested c t o)) (due_at t o d k)
    ∙ up_to_within c t o k d pos le (up_to_request c t o k (omega arith))

-- units done, by the two backlogs
pub done-owing : (D : Demands) (l τ : ℕ) → owing D τ l + done D l τ ≡ sum_below (D l) τ
done-owing D l zero = refl
done-owing D l (suc τ) = let ih = done-owing D l τ in grind (arith, Rattle.std.proofs.lemmas.Bool.Decides.nat_tests)

pub done_gap :
    (D : Demands) (l : ℕ) (f g : ℕ → ℕ) → ((τ : ℕ) → sum_below (λ j. D j τ) l ≡ f τ) → ((τ : ℕ) → D l τ ≡ g τ) → (τ : ℕ) →
    done D l τ + backlog (both f g) τ ≡ sum_below (D l) τ + backlog f τ
done_gap D l f g ef eg τ =
    let a = above-owing D τ l in
    let b = above-owing D τ (suc l) in
    let e₁ = same_demand 0 (λ σ. sum_below (λ j. D j σ) l) f ef τ in
    let e₂ =
    same_demand 0 (λ σ. sum_below (λ j. D j σ) (suc l)) (both f g)
    (λ σ. let x = ef σ in let y = eg σ in omega arith) τ
    in
    let o = done-owing D l τ in
    omega arith

-- A demand of period P = h * t below which the task runs, from tick m on, with room for the task.
module _ (b h m c t o d : ℕ) (f : ℕ → ℕ) (some : 0 < h) (dpos : 0 < d) (dle : d ≤ t) (start : o ≤ m)
    (per : Periodic (h * t) m f) (light : Light (h * t) (both f (requested c t o))) where
  above_light : Light (h * t) f
  above_light a =
      let s = sum_below_add (since a f) (since a (requested c t o)) (h * t) in
      let l = light a in
      omega arith

  period_positive : 0 < h * t
  period_positive = let m = mul-le-mul_right t some in let e = one-mul t in omega arith

  gap_repeats : (τ : ℕ) → m + h * t ≤ τ → Behind b f (requested c t o) (h * t + τ) → Behind b f (requested c t o) τ
  gap_repeats τ le late =
      let e₁ = repeats (h * t) m f period_positive above_light per τ le in
      let e₂ =
      repeats (h * t) m (both f (requested c t o)) period_positive light
      (both_periodic (h * t) m f (requested c t o) per (stream_periodic c t o h m start)) τ le
      in
      omega arith

  -- a late request has one that is due before m + 2P
  pub late_early :
      (n k : ℕ) → k < n → Behind b f (requested c t o) (due t o d (suc k)) →
      (j : ℕ) × (due t o d (suc j) ≤ m + 2 * (h * t)) × Behind b f (requested c t o) (due t o d (suc j))
  late_early zero k lt late = absurd (omega arith)
  late_early (suc n) k lt late = go (cases_lt (due t o d (suc k)) (m + 2 * (h * t))) (late_early n)
    where
      go :
          (due t o d (suc k) < m + 2 * (h * t)) ⊎ (m + 2 * (h * t) ≤ due t o d (suc k)) →
          ((j : ℕ) → j < n → Behind b f (requested c t o) (due t o d (suc j)) →
          (j : ℕ) × (due t o d (suc j) ≤ m + 2 * (h * t)) × Behind b f (requested c t o) (due t o d (suc j))) →
          (j : ℕ) × (due t o d (suc j) ≤ m + 2 * (h * t)) × Behind b f (requested c t o) (due t o d (suc j))
      go (inl l) back = (k, omega arith, late)
      go (inr far) back = earlier (cases_lt k h)
        where
          earlier : (k < h) ⊎ (h ≤ k) → (j : ℕ) × (due t o d (suc j) ≤ m + 2 * (h * t)) × Behind b f (requested c t o) (due t o d (suc j))
          earlier (inl small) =
              let at = due_at t o d k in
              let le = mul-le-mul_right t small in
              let e = suc-mul k t in
              let pp = period_positive in
              absurd (omega arith)
          earlier (inr large) =
              let j = k - h in
              let e : suc k ≡ suc j + h = omega arith in
              let de = ap (due t o d) e ∙ due_more t o d h j in
              let late' = subst (λ x. Behind b f (requested c t o) x) de late in
              back j (omega arith) (gap_repeats (due t o d (suc j)) (omega arith) late')
