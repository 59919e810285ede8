-- The backlog of a demand: the units left where each tick takes one of what there is.
-- The levels above a level together owe the backlog of their demand, so a level owes the difference of two backlogs.
use Rattle.std.proofs.Common.{◌≡◌, ℕ, zero, suc, ◌+◌, ◌-◌, ◌<◌, ◌≤◌, ◌⊎◌, sym, refl, ap, ◌∙◌, subst, inl, inr, add-zero, add-suc, arith}
use Rattle.std.proofs.lemmas.Bool.Decides.{nat_tests}
use Rattle.std.proofs.lemmas.Bool.{cases_lt, cases_eq}
use Rattle.timeline.specs.Processor.{Demands, sum_below, served, owing, ready}

-- units left before a tick, from x at tick 0
abbrev pub backlog_from : ℕ → (ℕ → ℕ) → ℕ → ℕ
backlog_from x f zero = x
backlog_from x f (suc τ) = (backlog_from x f τ + f τ) - 1

abbrev pub backlog : (ℕ → ℕ) → ℕ → ℕ
backlog f τ = backlog_from 0 f τ

-- two demands at once
abbrev pub both : (ℕ → ℕ) → (ℕ → ℕ) → ℕ → ℕ
both f g τ = f τ + g τ

-- the demand from a tick on
abbrev pub since : ℕ → (ℕ → ℕ) → ℕ → ℕ
since s f τ = f (s + τ)

-- the units that n ticks bring, from tick a on
abbrev pub brought : (ℕ → ℕ) → ℕ → ℕ → ℕ
brought f a n = sum_below (since a f) n

pub sum_below-served : (w : ℕ → ℕ) (i : ℕ) → sum_below (served w) i ≡ sum_below w i - 1
sum_below-served w zero = refl
sum_below-served w (suc i) = let ih = sum_below-served w i in grind (arith, nat_tests)

pub sum_below_add : (v w : ℕ → ℕ) (i : ℕ) → sum_below (λ j. v j + w j) i ≡ sum_below v i + sum_below w i
sum_below_add v w zero = refl
sum_below_add v w (suc i) = omega (arith, sum_below_add v w i)

pub sum_below_none : (i : ℕ) → sum_below (λ j. 0) i ≡ 0
sum_below_none zero = refl
sum_below_none (suc i) = omega (arith, sum_below_none i)

pub sum_below_mono : (v w : ℕ → ℕ) (i : ℕ) → ((j : ℕ) → j < i → v j ≤ w j) → sum_below v i ≤ sum_below w i
sum_below_mono v w zero h = omega arith
sum_below_mono v w (suc i) h =
    let ih = sum_below_mono v w i (λ j l. h j (omega arith)) in omega (arith, h i (omega arith))

pub sum_below_same : (v w : ℕ → ℕ) (i : ℕ) → ((j : ℕ) → j < i → v j ≡ w j) → sum_below v i ≡ sum_below w i
sum_below_same v w zero h = refl
sum_below_same v w (suc i) h =
    let ih = sum_below_same v w i (λ j l. h j (omega arith)) in omega (arith, h i (omega arith))

-- one part of a sum is at most the sum
pub part_le : (units : ℕ → ℕ) (w i : ℕ) → w < i → units w ≤ sum_below units i
part_le units w zero l = absurd (omega arith)
part_le units w (suc i) l = go (cases_lt w i) (part_le units w i)
  where
    go : (w < i) ⊎ (i ≤ w) → (w < i → units w ≤ sum_below units i) → units w ≤ sum_below units (suc i)
    go (inl below) ih = let part = ih below in omega arith
    go (inr end) ih = let e : w ≡ i = omega arith in let last = ap units e in omega arith

-- the levels above a level owe the backlog of their demand
pub above-owing : (D : Demands) (τ i : ℕ) → sum_below (owing D τ) i ≡ backlog (λ σ. sum_below (λ j. D j σ) i) τ
above-owing D zero i = sum_below_none i
above-owing D (suc τ) i =
    sum_below-served (ready D τ) i
    ∙ (let e = sum_below_add (owing D τ) (λ j. D j τ) i in let ih = above-owing D τ i in omega arith)

-- a smaller start and a smaller demand leave a smaller backlog
pub monotone : (x y : ℕ) (f g : ℕ → ℕ) → x ≤ y → ((τ : ℕ) → f τ ≤ g τ) → (τ : ℕ) → backlog_from x f τ ≤ backlog_from y g τ
monotone x y f g le h zero = le
monotone x y f g le h (suc τ) = let ih = monotone x y f g le h τ in omega (arith, h τ)

pub same_demand : (x : ℕ) (f g : ℕ → ℕ) → ((τ : ℕ) → f τ ≡ g τ) → (τ : ℕ) → backlog_from x f τ ≡ backlog_from x g τ
same_demand x f g h zero = refl
same_demand x f g h (suc τ) = let ih = same_demand x f g h τ in omega (arith, h τ)

-- Less work above and less work of one's own never leave more of one's own: x and y are the backlogs of those
-- above and of all, x' and y' the same with less work.
pub apart :
    (x y x' y' : ℕ) (f g f' g' : ℕ → ℕ) → x' ≤ x → x ≤ y → y' + x ≤ y + x' → ((τ : ℕ) → f' τ ≤ f τ) → ((τ : ℕ) → g' τ ≤ g τ) →
    (τ : ℕ) →
    (backlog_from x' f' τ ≤ backlog_from x f τ) × (backlog_from x f τ ≤ backlog_from y (both f g) τ)
    × (backlog_from y' (both f' g') τ + backlog_from x f τ ≤ backlog_from y (both f g) τ + backlog_from x' f' τ)
apart x y x' y' f g f' g' a b c hf hg zero = (a, b, c)
apart x y x' y' f g f' g' a b c hf hg (suc τ) =
    let ih = apart x y x' y' f g f' g' a b c hf hg τ in
    let p = hf τ in
    let q = hg τ in
    (omega arith, omega arith, omega arith)

pub below_both : (f g : ℕ → ℕ) (τ : ℕ) → backlog f τ ≤ backlog (both f g) τ
below_both f g τ = monotone 0 0 f (both f g) (omega arith) (λ σ. omega arith) τ

-- a backlog goes on from any tick as one that starts there
pub split : (x : ℕ) (f : ℕ → ℕ) (s τ : ℕ) → backlog_from x f (s + τ) ≡ backlog_from (backlog_from x f s) (since s f) τ
split x f s zero = ap (backlog_from x f) (add-zero s)
split x f s (suc τ) =
    ap (backlog_from x f) (add-suc s τ) ∙ ap (λ n. (n + f (s + τ)) - 1) (split x f s τ)

-- as long as the backlog does not run out, each tick takes one unit
pub busy : (x : ℕ) (f : ℕ → ℕ) (n : ℕ) → ((j : ℕ) → j < n → 0 < backlog_from x f (suc j)) → backlog_from x f n + n ≡ x + sum_below f n
busy x f zero h = omega arith
busy x f (suc n) h =
    let ih = busy x f n (λ j l. h j (omega arith)) in omega (arith, h n (omega arith))

-- with n units in hand, n ticks are busy
pub busy_long : (x : ℕ) (f : ℕ → ℕ) (n : ℕ) → n ≤ x → backlog_from x f n + n ≡ x + sum_below f n
busy_long x f zero h = omega arith
busy_long x f (suc n) h = let ih = busy_long x f n (omega arith) in omega arith

-- a bounded search for an empty backlog
pub first_empty :
    (x : ℕ) (f : ℕ → ℕ) (n : ℕ) →
    ((j : ℕ) × (j < n) × (backlog_from x f (suc j) ≡ 0)) ⊎ ((j : ℕ) → j < n → 0 < backlog_from x f (suc j))
first_empty x f zero = inr (λ j l. omega arith)
first_empty x f (suc n) = go (first_empty x f n) (cases_eq (backlog_from x f (suc n)) 0)
  where
    go :
        ((j : ℕ) × (j < n) × (backlog_from x f (suc j) ≡ 0)) ⊎ ((j : ℕ) → j < n → 0 < backlog_from x f (suc j)) →
        ((backlog_from x f (suc n) ≡ 0) ⊎ (backlog_from x f (suc n) ≡ 0 → ⊥)) →
        ((j : ℕ) × (j < suc n) × (backlog_from x f (suc j) ≡ 0)) ⊎ ((j : ℕ) → j < suc n → 0 < backlog_from x f (suc j))
    go (inl (j, l, e)) c = inl (j, omega arith, e)
    go (inr h) (inl e) = inl (n, omega arith, e)
    go (inr h) (inr ne) = inr (λ j l. last j l (cases_eq j n))
      where
        last : (j : ℕ) → j < suc n → (j ≡ n) ⊎ (j ≡ n → ⊥) → 0 < backlog_from x f (suc j)
        last j l (inl e) = subst (λ i. 0 < backlog_from x f (suc i)) (sym e) (omega arith)
        last j l (inr ne') = h j (omega arith)
