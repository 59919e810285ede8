-- More than P units in every P ticks: some request of the lowest task is late.
use Rattle.std.proofs.Common.{◌≡◌, ℕ, zero, suc, ◌+◌, ◌*◌, ◌<◌, ◌≤◌, ◌⊎◌, sym, ap, ◌∙◌, subst, inl, inr, mul_assoc, suc-mul, mul-le-mul_left, mul-one, arith}
use Rattle.timeline.specs.Processor.{sum_below}
use Rattle.timeline.specs.Requests.{requested}
use Rattle.timeline.proofs.Backlog.{backlog_from, backlog, both, since, brought, sum_below_add, below_both, split, busy_long}
use Rattle.timeline.proofs.Streams.{brought-since}
use Rattle.timeline.proofs.Lateness.{due, Behind, behind_dec, due_more, due_at}

-- n ticks take at most n units
pub takes_most : (x : ℕ) (f : ℕ → ℕ) (n : ℕ) → x + sum_below f n ≤ backlog_from x f n + n
takes_most x f zero = omega arith
takes_most x f (suc n) = let ih = takes_most x f n in omega arith

-- from tick a on, where every P ticks bring more than P, the backlog climbs
pub climbs : (P a : ℕ) (f : ℕ → ℕ) → ((b : ℕ) → a ≤ b → P < brought f b P) → (n : ℕ) → n ≤ backlog f (a + n * P)
climbs P a f heavy zero = omega arith
climbs P a f heavy (suc n) =
    let b = a + n * P in
    let ih = climbs P a f heavy n in
    let more = heavy b (omega arith) in
    let e : a + suc n * P ≡ b + P = let m = suc-mul n P in omega arith in
    let s = ap (backlog f) e ∙ split 0 f b P in
    let t = takes_most (backlog f b) (since b f) P in
    omega arith

pub overload :
    (b h m c t o d : ℕ) (f : ℕ → ℕ) → 0 < c → 0 < t → o ≤ m →
    ((a : ℕ) → m ≤ a → h * t < brought (both f (requested c t o)) a (h * t)) →
    (k : ℕ) × Behind b f (requested c t o) (due t o d (suc k))
overload b h m c t o d f cpos tpos start heavy = go (behind_dec b f (requested c t o) (due t o d (suc k)))
  where
    -- so many periods that keep those above busy are enough, and so much backlog keeps them busy
    n : ℕ
    n = suc b

    x : ℕ
    x = n * t + b

    k : ℕ
    k = m + x * h

    go :
        Behind b f (requested c t o) (due t o d (suc k)) ⊎ (backlog (both f (requested c t o)) (due t o d (suc k)) ≤ backlog f (due t o d (suc k)) + b) →
        (k : ℕ) × Behind b f (requested c t o) (due t o d (suc k))
    go (inl late) = (k, late)
    go (inr e) =
        let a = due t o d (suc m) in
        let mt : m ≤ m * t = let u = mul-le-mul_left m tpos in let v = mul-one m in omega arith in
        let ea = due_at t o d m in
        let up = climbs (h * t) a (both f (requested c t o)) (λ s le. heavy s (omega arith)) x in
        let τ = due t o d (suc k) in
        let eτ : τ ≡ a + x * (h * t) =
        let u : suc k ≡ suc m + x * h = omega arith in
        let v = ap (due t o d) u ∙ due_more t o d (x * h) m in
        let w = mul_assoc x h t in
        omega arith
        in
        let full : x ≤ backlog (both f (requested c t o)) τ = subst (λ s. x ≤ backlog (both f (requested c t o)) s) (sym eτ) up in
        let next : due t o d (suc (k + n)) ≡ τ + n * t =
        let u : suc (k + n) ≡ suc k + n = omega arith in
        let v = ap (due t o d) u ∙ due_more t o d n k in
        omega arith
        in
        let s₁ = ap (backlog f) next ∙ split 0 f τ (n * t) in
        let s₂ = ap (backlog (both f (requested c t o))) next ∙ split 0 (both f (requested c t o)) τ (n * t) in
        let b₁ = busy_long (backlog f τ) (since τ f) (n * t) (omega arith) in
        let b₂ = busy_long (backlog (both f (requested c t o)) τ) (since τ (both f (requested c t o))) (n * t) (omega arith) in
        let sum = sum_below_add (since τ f) (since τ (requested c t o)) (n * t) in
        let own = brought-since c t o n τ tpos (omega arith) in
        let many : n ≤ n * c = let u = mul-le-mul_left n cpos in let v = mul-one n in omega arith in
        let below = below_both f (requested c t o) τ in
        (k + n, (let late : Behind b f (requested c t o) (due t o d (suc (k + n))) = omega arith in late))
