-- Moving starts: what a late request becomes when first requests are left out, and when all starts move alike.
use Rattle.std.proofs.Common.{◌≡◌, ℕ, zero, suc, ◌+◌, ◌-◌, ◌*◌, ◌<◌, ◌≤◌, sym, refl, ap, ◌∙◌, subst, mul-le-mul_right, suc-mul, add-mul, mul-le-mul_left, one-mul, zero-mul, mul-one, arith}
use Rattle.timeline.specs.Requests.{requested}
use Rattle.timeline.proofs.Backlog.{backlog_from, backlog, both, since, same_demand, apart, split}
use Rattle.timeline.proofs.Repeats.{Light, Periodic, late_again, same_tail}
use Rattle.timeline.proofs.Streams.{stream_periodic, left_out, left_out_less, shifted, before_start}
use Rattle.timeline.proofs.Lateness.{due, Behind, due_more, due_at}

-- less work above and less of one's own: what is left behind then is left behind before
pub less_behind :
    (b : ℕ) (f g f' g' : ℕ → ℕ) → ((τ : ℕ) → f' τ ≤ f τ) → ((τ : ℕ) → g' τ ≤ g τ) → (τ : ℕ) → Behind b f' g' τ → Behind b f g τ
less_behind b f g f' g' hf hg τ late =
    let a = apart 0 0 0 0 f g f' g' (omega arith) (omega arith) (omega arith) hf hg τ in omega (arith, a.2)

pub same_behind :
    (b : ℕ) (f g f' g' : ℕ → ℕ) → ((τ : ℕ) → f τ ≡ f' τ) → ((τ : ℕ) → g τ ≡ g' τ) → (τ : ℕ) → Behind b f g τ → Behind b f' g' τ
same_behind b f g f' g' ef eg τ late =
    let e₁ = same_demand 0 f f' ef τ in
    let e₂ = same_demand 0 (both f g) (both f' g') (λ σ. let x = ef σ in let y = eg σ in omega arith) τ in
    omega arith

-- a backlog whose demand begins at tick s is the other, s ticks later
pub idle_before : (f : ℕ → ℕ) (s : ℕ) → ((τ : ℕ) → τ < s → f τ ≡ 0) → backlog f s ≡ 0
idle_before f zero h = refl
idle_before f (suc s) h =
    let ih = idle_before f s (λ τ l. h τ (omega arith)) in let z = h s (omega arith) in omega arith

pub shifted_backlog :
    (f f' : ℕ → ℕ) (s : ℕ) → ((τ : ℕ) → τ < s → f' τ ≡ 0) → ((τ : ℕ) → f' (s + τ) ≡ f τ) → (τ : ℕ) → backlog f' (s + τ) ≡ backlog f τ
shifted_backlog f f' s none same τ =
    split 0 f' s τ ∙ ap (λ x. backlog_from x (since s f') τ) (idle_before f' s none) ∙ same_demand 0 (since s f') f same τ

pub due_shifted : (t o d s k : ℕ) → due t (s + o) d k ≡ s + due t o d k
due_shifted t o d s k = omega arith

module _ (b c t o d s : ℕ) (f f' : ℕ → ℕ) (none : (τ : ℕ) → τ < s → f' τ ≡ 0) (same : (τ : ℕ) → f' (s + τ) ≡ f τ) where
  both_none : (τ : ℕ) → τ < s → both f' (requested c t (s + o)) τ ≡ 0
  both_none τ l = let a = none τ l in let z = before_start c t (s + o) τ (omega arith) in omega arith

  both_same : (τ : ℕ) → both f' (requested c t (s + o)) (s + τ) ≡ both f (requested c t o) τ
  both_same τ = let a = same τ in let z = shifted c t o s τ in omega arith

  -- all starts s ticks later: the same requests are late
  pub shift_late : (k : ℕ) → Behind b f (requested c t o) (due t o d k) → Behind b f' (requested c t (s + o)) (due t (s + o) d k)
  shift_late k late =
      let e = due_shifted t o d s k in
      let e₁ = shifted_backlog f f' s none same (due t o d k) in
      let e₂ = shifted_backlog (both f (requested c t o)) (both f' (requested c t (s + o))) s both_none both_same (due t o d k) in
      let late' : Behind b f' (requested c t (s + o)) (s + due t o d k) = omega arith in
      subst (λ x. Behind b f' (requested c t (s + o)) x) (sym e) late'

  pub unshift_late : (k : ℕ) → Behind b f' (requested c t (s + o)) (due t (s + o) d k) → Behind b f (requested c t o) (due t o d k)
  unshift_late k late =
      let e = due_shifted t o d s k in
      let e₁ = shifted_backlog f f' s none same (due t o d k) in
      let e₂ = shifted_backlog (both f (requested c t o)) (both f' (requested c t (s + o))) s both_none both_same (due t o d k) in
      let late' = subst (λ x. Behind b f' (requested c t (s + o)) x) e late in
      omega arith

pub due_left_out : (t o d j k : ℕ) → due t (o + j * t) d (suc k) ≡ due t o d (suc k + j)
due_left_out t o d j k = let e₁ = due_more t o d j k in omega arith

-- with first requests left out, a late request was late before
pub put_back :
    (b c t o d j : ℕ) (f f' : ℕ → ℕ) → ((τ : ℕ) → f' τ ≤ f τ) → (k : ℕ) → Behind b f' (requested c t (o + j * t)) (due t (o + j * t) d (suc k)) →
    Behind b f (requested c t o) (due t o d (suc (k + j)))
put_back b c t o d j f f' less k late =
    let e : suc (k + j) ≡ suc k + j = omega arith in
    let e' = due_left_out t o d j k ∙ ap (due t o d) (sym e) in
    let late' = less_behind b f (requested c t o) f' (requested c t (o + j * t)) less (left_out_less c t o j) (due t (o + j * t) d (suc k)) late in
    subst (λ x. Behind b f (requested c t o) x) e' late'

-- A late request is late again h periods later, and so on.
pub late_later :
    (b h m c t o d : ℕ) (f : ℕ → ℕ) → o ≤ m → Periodic (h * t) m f → (n k : ℕ) → Behind b f (requested c t o) (due t o d (suc k)) →
    Behind b f (requested c t o) (due t o d (suc k + n * h))
late_later b h m c t o d f start per zero k late =
    let e : suc k ≡ suc k + 0 * h = let z = zero-mul h in omega arith in
    subst (λ x. Behind b f (requested c t o) (due t o d x)) e late
late_later b h m c t o d f start per (suc n) k late =
    let ih = late_later b h m c t o d f start per n k late in
    let e₀ : suc k + n * h ≡ suc (k + n * h) = omega arith in
    let ih' = subst (λ x. Behind b f (requested c t o) (due t o d x)) e₀ ih in
    let a = late_again (h * t) m f (requested c t o) per (stream_periodic c t o h m start) (due t o d (suc (k + n * h))) in
    let e₁ = due_more t o d h (k + n * h) in
    let e₂ : suc (k + n * h) + h ≡ suc k + suc n * h = let z = suc-mul n h in omega arith in
    let late' : Behind b f (requested c t o) (h * t + due t o d (suc (k + n * h))) = omega arith in
    subst (λ x. Behind b f (requested c t o) x) (sym e₁ ∙ ap (due t o d) e₂) late'

-- with room for the task, a late request is late also with first requests left out: far enough on, all is as before
pub leave_out :
    (b h m c t o d j : ℕ) (f f' : ℕ → ℕ) → 0 < h → 0 < t → o + j * t ≤ m → Periodic (h * t) m f →
    Light (h * t) (both f (requested c t o)) → Light (h * t) f → ((τ : ℕ) → f' τ ≤ f τ) → ((τ : ℕ) → m ≤ τ → f' τ ≡ f τ) →
    (k : ℕ) → Behind b f (requested c t o) (due t o d (suc k)) →
    (i : ℕ) × Behind b f' (requested c t (o + j * t)) (due t (o + j * t) d (suc i))
leave_out b h m c t o d j f f' some tpos start per light light₁ less agree k now =
    let n = m + h * t + j in
    let late = late_later b h m c t o d f (omega arith) per n k now in
    let nh : n ≤ n * h = let x = mul-le-mul_left n some in let y = mul-one n in omega arith in
    let nht : n * h ≤ n * h * t = let x = mul-le-mul_left (n * h) tpos in let y = mul-one (n * h) in omega arith in
    let i = (k + n * h) - j in
    let e : suc i + j ≡ suc k + n * h = omega arith in
    let at : due t o d (suc k + n * h) ≡ due t (o + j * t) d (suc i) = sym (due_left_out t o d j i ∙ ap (due t o d) e) in
    let τ = due t (o + j * t) d (suc i) in
    let late' = subst (λ x. Behind b f (requested c t o) x) at late in
    let where' : due t o d (suc (k + n * h)) ≡ o + (k + n * h) * t + d = due_at t o d (k + n * h) in
    let same-k : suc k + n * h ≡ suc (k + n * h) = omega arith in
    let at' = sym at ∙ ap (due t o d) same-k ∙ where' in
    let product = add-mul k (n * h) t in
    let far : m + h * t ≤ τ = omega arith in
    let pos : 0 < h * t = let x = mul-le-mul_right t some in let y = one-mul t in omega arith in
    let e₁ = same_tail (h * t) m f' f pos light₁ less agree τ far in
    let e₂ =
    same_tail (h * t) m (both f' (requested c t (o + j * t))) (both f (requested c t o)) pos light
    (λ σ. let x = less σ in let y = left_out_less c t o j σ in omega arith)
    (λ σ le. let x = agree σ le in let y = left_out c t o j σ (omega arith) in omega arith) τ far
    in
    (i, (let l : Behind b f' (requested c t (o + j * t)) τ = omega arith in l))
