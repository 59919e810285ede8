-- A demand that never brings more than P units in P ticks: its backlog runs out again and again, and repeats.
use Rattle.std.proofs.Common.{◌≡◌, ℕ, zero, suc, ◌+◌, ◌-◌, ◌<◌, ◌≤◌, ◌⊎◌, sym, refl, ap, ◌∙◌, subst, inl, inr, add_assoc, arith}
use Rattle.std.proofs.lemmas.Bool.{cases_lt, cases_eq}
use Rattle.timeline.proofs.Backlog.{backlog_from, backlog, both, since, brought, monotone, same_demand, apart, split, busy, first_empty}

-- no P ticks bring more than P units
abbrev pub Light : ℕ → (ℕ → ℕ) → Type 0
Light P f = (a : ℕ) → brought f a P ≤ P

-- an empty backlog is empty again within P ticks
pub empties : (P : ℕ) (f : ℕ → ℕ) → 0 < P → Light P f → (v : ℕ) → backlog f v ≡ 0 → (w : ℕ) × (v < w) × (w ≤ v + P) × (backlog f w ≡ 0)
empties P f pos light v e = go (first_empty (backlog f v) (since v f) P)
  where
    at : (j : ℕ) → backlog_from (backlog f v) (since v f) j ≡ backlog f (v + j)
    at j = sym (split 0 f v j)

    go :
        ((j : ℕ) × (j < P) × (backlog_from (backlog f v) (since v f) (suc j) ≡ 0))
        ⊎ ((j : ℕ) → j < P → 0 < backlog_from (backlog f v) (since v f) (suc j)) →
        (w : ℕ) × (v < w) × (w ≤ v + P) × (backlog f w ≡ 0)
    go (inl (j, l, z)) = (v + suc j, omega arith, omega arith, sym (at (suc j)) ∙ z)
    go (inr h) =
        let full = busy (backlog f v) (since v f) P h in
        let lt = light v in
        (v + P, omega arith, omega arith, sym (at P) ∙ omega arith)

-- the last P ticks up to any tick have one that begins with an empty backlog
pub emptied : (P : ℕ) (f : ℕ → ℕ) → 0 < P → Light P f → (a : ℕ) → (w : ℕ) × (w ≤ a) × (a < w + P) × (backlog f w ≡ 0)
emptied P f pos light zero = (0, omega arith, omega arith, refl)
emptied P f pos light (suc a) = go (emptied P f pos light a) (cases_eq (backlog f (suc a)) 0)
  where
    go :
        ((w : ℕ) × (w ≤ a) × (a < w + P) × (backlog f w ≡ 0)) → ((backlog f (suc a) ≡ 0) ⊎ (backlog f (suc a) ≡ 0 → ⊥)) →
        (w : ℕ) × (w ≤ suc a) × (suc a < w + P) × (backlog f w ≡ 0)
    go (w, le, lt, e) (inl z) = (suc a, omega arith, omega arith, z)
    go (w, le, lt, e) (inr nz) = far (cases_lt (suc a) (w + P)) (empties P f pos light w e)
      where
        far :
            (suc a < w + P) ⊎ (w + P ≤ suc a) → ((u : ℕ) × (w < u) × (u ≤ w + P) × (backlog f u ≡ 0)) →
            (u : ℕ) × (u ≤ suc a) × (suc a < u + P) × (backlog f u ≡ 0)
        far (inl near) next = (w, omega arith, near, e)
        far (inr end) (u, after, within, z) = (u, omega arith, omega arith, z)

-- the same demand from an equal backlog on
pub follows :
    (f g : ℕ → ℕ) (v w : ℕ) → backlog f v ≡ backlog g w → ((τ : ℕ) → f (v + τ) ≡ g (w + τ)) → (τ : ℕ) →
    backlog f (v + τ) ≡ backlog g (w + τ)
follows f g v w e same τ =
    split 0 f v τ ∙ ap (λ x. backlog_from x (since v f) τ) e ∙ same_demand (backlog g w) (since v f) (since w g) same τ
    ∙ sym (split 0 g w τ)

-- A demand of period P: it never falls under a shift by P, and keeps from tick m on.
pub record Periodic (P m : ℕ) (f : ℕ → ℕ) : Type 0 where
  pub grows : (τ : ℕ) → f τ ≤ f (P + τ)
  pub keeps : (τ : ℕ) → m ≤ τ → f (P + τ) ≡ f τ

pub both_periodic : (P m : ℕ) (f g : ℕ → ℕ) → Periodic P m f → Periodic P m g → Periodic P m (both f g)
both_periodic P m f g p q =
    record {
      grows = λ τ. let a = p.grows τ in let b = q.grows τ in omega arith;
      keeps = λ τ le. let a = p.keeps τ le in let b = q.keeps τ le in omega arith;
    }

-- the backlog never falls under a shift by P
pub rises : (P m : ℕ) (f : ℕ → ℕ) → Periodic P m f → (τ : ℕ) → backlog f τ ≤ backlog f (P + τ)
rises P m f per τ =
    let e = split 0 f P τ in
    let le = monotone 0 (backlog f P) f (since P f) (omega arith) per.grows τ in
    omega arith

-- from m + P on the backlog repeats every P ticks
pub repeats : (P m : ℕ) (f : ℕ → ℕ) → 0 < P → Light P f → Periodic P m f → (τ : ℕ) → m + P ≤ τ → backlog f (P + τ) ≡ backlog f τ
repeats P m f pos light per τ le = go (emptied P f pos light (m + P + P))
  where
    go : ((z : ℕ) × (z ≤ m + P + P) × (m + P + P < z + P) × (backlog f z ≡ 0)) → backlog f (P + τ) ≡ backlog f τ
    go (z, high, low, e) =
        let w = z - P in
        let zw : z ≡ P + w = omega arith in
        let r = rises P m f per w in
        let ez : backlog f (P + w) ≡ 0 = subst (λ x. backlog f x ≡ 0) zw e in
        let ew : backlog f w ≡ 0 = omega arith in
        let u = τ - w in
        let tu : τ ≡ w + u = omega arith in
        let keep : (σ : ℕ) → f (P + w + σ) ≡ f (w + σ) = λ σ. ap f (add_assoc P w σ) ∙ per.keeps (w + σ) (omega arith) in
        let step = follows f f (P + w) w (ez ∙ sym ew) keep u in
        ap (backlog f) (omega arith) ∙ step ∙ ap (backlog f) (sym tu)

-- what those below a demand f owe never falls under a shift by P
pub late_again :
    (P m : ℕ) (f g : ℕ → ℕ) → Periodic P m f → Periodic P m g → (τ : ℕ) →
    backlog (both f g) τ + backlog f (P + τ) ≤ backlog (both f g) (P + τ) + backlog f τ
late_again P m f g pf pg τ =
    let x = backlog f P in
    let y = backlog (both f g) P in
    let xy = monotone 0 0 f (both f g) (omega arith) (λ σ. omega arith) P in
    let a = apart x y 0 0 (since P f) (since P g) f g (omega arith) xy (omega arith) pf.grows pg.grows τ in
    let e₁ = split 0 f P τ in
    let e₂ = split 0 (both f g) P τ in
    omega (arith, a.2)

-- Light demands that agree from tick m on have equal backlogs from some tick on: any empty one of the greater.
pub same_tail :
    (P m : ℕ) (f g : ℕ → ℕ) → 0 < P → Light P g → ((τ : ℕ) → f τ ≤ g τ) → ((τ : ℕ) → m ≤ τ → f τ ≡ g τ) → (τ : ℕ) → m + P ≤ τ →
    backlog f τ ≡ backlog g τ
same_tail P m f g pos light le agree τ far = go (emptied P g pos light (m + P))
  where
    go : ((z : ℕ) × (z ≤ m + P) × (m + P < z + P) × (backlog g z ≡ 0)) → backlog f τ ≡ backlog g τ
    go (z, high, low, e) =
        let less = monotone 0 0 f g (omega arith) le z in
        let ef : backlog f z ≡ 0 = omega arith in
        let u = τ - z in
        let tu : τ ≡ z + u = omega arith in
        let step = follows f g z z (ef ∙ sym e) (λ σ. agree (z + σ) (omega arith)) u in
        ap (backlog f) tu ∙ step ∙ ap (backlog g) (sym tu)
