-- Whatever the starts: where R ticks bring those above at most R - c units, every request is done R ticks after it falls.
use Rattle.std.proofs.Common.{◌≡◌, ℕ, zero, suc, ◌+◌, ◌-◌, ◌*◌, ◌<◌, ◌≤◌, ◌⊎◌, sym, refl, ap, ◌∙◌, subst, inl, inr, add-zero, add_assoc, add-suc, suc-mul, zero-mul, arith}
use Rattle.std.proofs.lemmas.Bool.{cases_lt, cases_eq}
use Rattle.timeline.specs.Requests.{requested}
use Rattle.timeline.proofs.Backlog.{backlog, both, since, brought, sum_below_add, sum_below_same, below_both, split, busy}
use Rattle.timeline.proofs.Streams.{sum_span, before_start, request_falls, no_request}
use Rattle.timeline.proofs.Lateness.{due, due_at, Behind, behind_dec}

-- nothing of the demand g is left at a tick, below the demand f
abbrev Level : (ℕ → ℕ) → (ℕ → ℕ) → ℕ → Type 0
Level f g τ = backlog (both f g) τ ≡ backlog f τ

level_dec : (f g : ℕ → ℕ) (τ : ℕ) → Behind 0 f g τ ⊎ Level f g τ
level_dec f g τ = go (behind_dec 0 f g τ)
  where
    go : Behind 0 f g τ ⊎ (backlog (both f g) τ ≤ backlog f τ + 0) → Behind 0 f g τ ⊎ Level f g τ
    go (inl late) = inl late
    go (inr le) = inr (let low = below_both f g τ in omega arith)

-- where nothing is left and nothing comes, nothing is left
stays_level : (f g : ℕ → ℕ) (a n : ℕ) → Level f g a → ((j : ℕ) → j < n → g (a + j) ≡ 0) → Level f g (a + n)
stays_level f g a zero e none = subst (λ x. Level f g x) (sym (add-zero a)) e
stays_level f g a (suc n) e none =
    let ih = stays_level f g a n e (λ j l. none j (omega arith)) in
    let z = none n (omega arith) in
    subst (λ x. Level f g x) (sym (add-suc a n)) (let s : Level f g (suc (a + n)) = omega arith in s)

-- what is still left, while nothing came, was left all the time
left_before : (f g : ℕ → ℕ) (a n : ℕ) → ((j : ℕ) → 0 < j → j < n → g (a + j) ≡ 0) → Behind 0 f g (a + n) → (i : ℕ) → i < n → Behind 0 f g (a + suc i)
left_before f g a n none b i l = go (level_dec f g (a + suc i))
  where
    go : Behind 0 f g (a + suc i) ⊎ Level f g (a + suc i) → Behind 0 f g (a + suc i)
    go (inl s) = s
    go (inr e) =
        let rest = n - suc i in
        let end : a + suc i + rest ≡ a + n = omega arith in
        let quiet : (j : ℕ) → j < rest → g (a + suc i + j) ≡ 0 =
        λ j lj. ap g (add_assoc a (suc i) j) ∙ none (suc i + j) (omega arith) (omega arith)
        in
        let zero' = subst (λ x. Level f g x) end (stays_level f g (a + suc i) rest e quiet) in
        absurd (omega arith)

-- the last tick up to r that begins with nothing left
last_empty : (f : ℕ → ℕ) (r : ℕ) → (v : ℕ) × (v ≤ r) × (backlog f v ≡ 0) × ((u : ℕ) → v < u → u ≤ r → 0 < backlog f u)
last_empty f zero = (0, omega arith, refl, λ u l m. absurd (omega arith))
last_empty f (suc r) = go (cases_eq (backlog f (suc r)) 0) (last_empty f r)
  where
    go :
        (backlog f (suc r) ≡ 0) ⊎ (backlog f (suc r) ≡ 0 → ⊥) →
        ((v : ℕ) × (v ≤ r) × (backlog f v ≡ 0) × ((u : ℕ) → v < u → u ≤ r → 0 < backlog f u)) →
        (v : ℕ) × (v ≤ suc r) × (backlog f v ≡ 0) × ((u : ℕ) → v < u → u ≤ suc r → 0 < backlog f u)
    go (inl e) _ = (suc r, omega arith, e, λ u l m. absurd (omega arith))
    go (inr ne) (v, le, e, busy') = (v, omega arith, e, λ u l m. last u l m (cases_eq u (suc r)))
      where
        last : (u : ℕ) → v < u → u ≤ suc r → (u ≡ suc r) ⊎ (u ≡ suc r → ⊥) → 0 < backlog f u
        last u l m (inl s) = subst (λ x. 0 < backlog f x) (sym s) (omega arith)
        last u l m (inr s) = busy' u l (omega arith)

-- one request and then nothing brings its units
one_request : (g : ℕ → ℕ) (r n c : ℕ) → 0 < n → g r ≡ c → ((j : ℕ) → 0 < j → j < n → g (r + j) ≡ 0) → brought g r n ≡ c
one_request g r zero c pos falls quiet = absurd (omega arith)
one_request g r (suc n) c pos falls quiet = go (cases_eq n 0) (λ p. one_request g r n c p falls (λ j a l. quiet j a (omega arith)))
  where
    go : (n ≡ 0) ⊎ (n ≡ 0 → ⊥) → (0 < n → brought g r n ≡ c) → brought g r (suc n) ≡ c
    go (inl e) _ =
        let at = ap (λ x. g (r + x)) e in let none = ap (brought g r) e in let z = ap g (add-zero r) in omega arith
    go (inr ne) ih = let i = ih (omega arith) in let z = quiet n (omega arith) (omega arith) in omega arith

-- a request of c units that falls at r, with nothing left before, is done by r + R
module _ (c R : ℕ) (f g : ℕ → ℕ) (cpos : 0 < c) (fits : (v : ℕ) → brought f v R + c ≤ R) where
  served_in_time :
      (r : ℕ) → Level f g r → g r ≡ c → ((j : ℕ) → 0 < j → j < R → g (r + j) ≡ 0) → Level f g (r + R)
  served_in_time r level falls quiet = go (last_empty f r)
    where
      go : ((v : ℕ) × (v ≤ r) × (backlog f v ≡ 0) × ((u : ℕ) → v < u → u ≤ r → 0 < backlog f u)) → Level f g (r + R)
      go (v, le, empty, busy') = early (cases_lt r (v + R))
        where
          until : ℕ
          until = r - v

          above_busy : (n : ℕ) → v + n ≤ r → backlog f (v + n) + n ≡ brought f v n
          above_busy n within =
              let e = split 0 f v n in
              let b =
              busy (backlog f v) (since v f) n
              (λ j l. subst (λ x. 0 < x) (split 0 f v (suc j)) (busy' (v + suc j) (omega arith) (omega arith)))
              in
              omega arith

          early : (r < v + R) ⊎ (v + R ≤ r) → Level f g (r + R)
          early (inr long) = let b = above_busy R long in let s = fits v in absurd (omega arith)
          early (inl short) = decide (level_dec f g (r + n))
            where
              -- ticks from r to v + R
              n : ℕ
              n = (v + R) - r

              rest : ℕ
              rest = r - v

              at_end : r + n + rest ≡ r + R
              at_end = omega arith

              decide : Behind 0 f g (r + n) ⊎ Level f g (r + n) → Level f g (r + R)
              decide (inr e) =
                  subst (λ x. Level f g x) at_end
                  (stays_level f g (r + n) rest e
                  (λ j l. ap g (add_assoc r n j) ∙ quiet (n + j) (omega arith) (omega arith)))
              decide (inl b) =
                  let all = busy (backlog (both f g) r) (since r (both f g)) n
                  (λ j l.
                  let s = split 0 (both f g) r (suc j) in
                  let p = left_before f g r n (λ i a z. quiet i a (omega arith)) b j l in
                  omega arith)
                  in
                  let own = one_request g r n c (omega arith) falls (λ j a z. quiet j a (omega arith)) in
                  let sum = sum_below_add (since r f) (since r g) n in
                  let s₂ = split 0 (both f g) r n in
                  let low = above_busy (r - v) (omega arith) in
                  let at-r : v + (r - v) ≡ r = omega arith in
                  let low' = ap (backlog f) at-r in
                  let parts = sum_span (since v f) (r - v) n in
                  let total : (r - v) + n ≡ R = omega arith in
                  let total' = ap (brought f v) total in
                  let same = sum_below_same (since (r - v) (since v f)) (since r f) n (λ j l. ap f (let e : v + ((r - v) + j) ≡ r + j = omega arith in e)) in
                  let s = fits v in
                  absurd (omega arith)

-- every request is done R ticks after it falls, so by any due tick from there to its period's end
module _ (c t o R : ℕ) (f : ℕ → ℕ) (cpos : 0 < c) (Rpos : 0 < R) (within : R ≤ t) (fits : (v : ℕ) → brought f v R + c ≤ R) where
  quiet_after : (k j : ℕ) → 0 < j → j < t → requested c t o (o + k * t + j) ≡ 0
  quiet_after k j pos l = ap (requested c t o) (add_assoc o (k * t) j) ∙ no_request c t o k j pos l

  level_at_request : (k : ℕ) → Level f (requested c t o) (o + k * t)
  level_at_request zero =
      let z = zero-mul t in
      let at : 0 + o ≡ o + 0 * t = omega arith in
      subst (λ x. Level f (requested c t o) x) at
      (stays_level f (requested c t o) 0 o refl (λ j l. before_start c t o (0 + j) (omega arith)))
  level_at_request (suc k) =
      let served = served_in_time c R f (requested c t o) cpos fits (o + k * t) (level_at_request k) (request_falls c t o k)
      (λ j pos l. quiet_after k j pos (omega arith))
      in
      let e : o + k * t + R + (t - R) ≡ o + suc k * t = let m = suc-mul k t in omega arith in
      subst (λ x. Level f (requested c t o) x) e
      (stays_level f (requested c t o) (o + k * t + R) (t - R) served
      (λ j l. ap (requested c t o) (add_assoc (o + k * t) R j) ∙ quiet_after k (R + j) (omega arith) (omega arith)))

  pub in_time_lem : (d k : ℕ) → R ≤ d → d ≤ t → backlog (both f (requested c t o)) (due t o d (suc k)) ≡ backlog f (due t o d (suc k))
  in_time_lem d k low high =
      let served = served_in_time c R f (requested c t o) cpos fits (o + k * t) (level_at_request k) (request_falls c t o k)
      (λ j pos l. quiet_after k j pos (omega arith))
      in
      let e : o + k * t + R + (d - R) ≡ due t o d (suc k) = let m = due_at t o d k in omega arith in
      subst (λ x. Level f (requested c t o) x) e
      (stays_level f (requested c t o) (o + k * t + R) (d - R) served
      (λ j l. ap (requested c t o) (add_assoc (o + k * t) R j) ∙ quiet_after k (R + j) (omega arith) (omega arith)))
