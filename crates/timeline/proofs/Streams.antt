-- The units that the requests of one task bring: where they fall, and how many in a span of ticks.
use Rattle.std.proofs.Common.{◌≡◌, ℕ, zero, suc, ◌+◌, ◌-◌, ◌*◌, ◌/◌, ◌%◌, ◌<◌, ◌≤◌, Bool, true, false, cond, ◌&&◌, eqb, leb, ◌⊎◌, sym, refl, ap, ◌∙◌, inl, inr, add-zero, add_assoc, add-suc, mod-lt, suc-mul, add-mul, div-add-mod', zero-mul, arith}
use lib.Arith.{digits_mod}
use native.Mathlib.Nat.{mul-mod_left, mul-add-mod_self_right}
use Rattle.std.proofs.lemmas.Bool.Decides.{nat_tests}
use Rattle.std.proofs.lemmas.Bool.{cases_lt, cases_eq, eq-eqb, ne_eqb, le-leb, lt-leb}
use Rattle.timeline.specs.Processor.{sum_below}
use Rattle.timeline.specs.Requests.{requested}
use Rattle.timeline.proofs.Backlog.{since, brought}
use Rattle.timeline.proofs.Repeats.{Periodic}

-- where a tick stands: before the start, or r ticks after the request k, counted from 0
pub whereabouts : (t o τ : ℕ) → 0 < t → (τ < o) ⊎ ((k : ℕ) × (r : ℕ) × (r < t) × (τ ≡ o + (k * t + r)))
whereabouts t o τ pos = go (cases_lt τ o)
  where
    go : (τ < o) ⊎ (o ≤ τ) → (τ < o) ⊎ ((k : ℕ) × (r : ℕ) × (r < t) × (τ ≡ o + (k * t + r)))
    go (inl l) = inl l
    go (inr l) =
        inr ((τ - o) / t, (τ - o) % t, mod-lt (τ - o) pos, (let e = div-add-mod' (τ - o) t in omega arith))

pub before_start : (c t o τ : ℕ) → τ < o → requested c t o τ ≡ 0
before_start c t o τ l = let e = lt-leb o τ l in simp e

pub request_falls : (c t o k : ℕ) → requested c t o (o + k * t) ≡ c
request_falls c t o k =
    let e : (o + k * t) - o ≡ k * t = omega arith in
    let z : ((o + k * t) - o) % t ≡ 0 = ap (λ x. x % t) e ∙ mul-mod_left k t in
    let b = eq-eqb (((o + k * t) - o) % t) 0 z in
    let l = le-leb o (o + k * t) (omega arith) in
    simp (l, b)

pub no_request : (c t o k r : ℕ) → 0 < r → r < t → requested c t o (o + (k * t + r)) ≡ 0
no_request c t o k r pos lt =
    let e : (o + (k * t + r)) - o ≡ k * t + r = omega arith in
    let z : ((o + (k * t + r)) - o) % t ≡ r = ap (λ x. x % t) e ∙ digits_mod k lt in
    let b = ne_eqb (((o + (k * t + r)) - o) % t) 0 (λ h. omega arith) in
    let l = le-leb o (o + (k * t + r)) (omega arith) in
    simp (l, b)

-- the units before a tick
abbrev pub up_to : ℕ → ℕ → ℕ → ℕ → ℕ
up_to c t o τ = sum_below (requested c t o) τ

pub up_to_start : (c t o τ : ℕ) → τ ≤ o → up_to c t o τ ≡ 0
up_to_start c t o zero le = refl
up_to_start c t o (suc τ) le = omega (arith, up_to_start c t o τ (omega arith), before_start c t o τ le)

-- r ticks after a request, and up to the next one, its units have come and no more
pub up_to_within : (c t o k r : ℕ) → 0 < r → r ≤ t → up_to c t o (o + k * t) ≡ k * c → up_to c t o (o + k * t + r) ≡ suc k * c
up_to_within c t o k zero pos le e = omega arith
up_to_within c t o k (suc r) pos le e = go (cases_eq r 0) (λ p q. up_to_within c t o k r p q e)
  where
    place : o + k * t + suc r ≡ suc (o + k * t + r)
    place = add-suc (o + k * t) r

    go :
        (r ≡ 0) ⊎ (r ≡ 0 → ⊥) → (0 < r → r ≤ t → up_to c t o (o + k * t + r) ≡ suc k * c) →
        up_to c t o (o + k * t + suc r) ≡ suc k * c
    go (inl z) _ =
        let here : o + k * t + suc r ≡ suc (o + k * t) = omega arith in
        ap (up_to c t o) here ∙ (let f = request_falls c t o k in let m = suc-mul k c in omega arith)
    go (inr nz) back =
        let ih = back (omega arith) (omega arith) in
        let free = no_request c t o k r (omega arith) le in
        let at : o + k * t + r ≡ o + (k * t + r) = add_assoc o (k * t) r in
        let free' : requested c t o (o + k * t + r) ≡ 0 = ap (requested c t o) at ∙ free in
        ap (up_to c t o) place ∙ omega arith

pub up_to_request : (c t o k : ℕ) → 0 < t → up_to c t o (o + k * t) ≡ k * c
up_to_request c t o zero pos =
    let z = zero-mul t in
    let here : o + 0 * t ≡ o = omega arith in
    ap (up_to c t o) here ∙ up_to_start c t o o (omega arith) ∙ sym (zero-mul c)
up_to_request c t o (suc k) pos =
    let here : o + suc k * t ≡ o + k * t + t = let m = suc-mul k t in omega arith in
    ap (up_to c t o) here ∙ up_to_within c t o k t pos (omega arith) (up_to_request c t o k pos)

-- a sum up to a later tick is one up to an earlier tick and the span between
pub sum_span : (f : ℕ → ℕ) (a n : ℕ) → sum_below f (a + n) ≡ sum_below f a + brought f a n
sum_span f a zero = ap (sum_below f) (add-zero a) ∙ omega arith
sum_span f a (suc n) = ap (sum_below f) (add-suc a n) ∙ (let ih = sum_span f a n in omega arith)

pub sum_rises : (f : ℕ → ℕ) (a b : ℕ) → a ≤ b → sum_below f a ≤ sum_below f b
sum_rises f a b le =
    let e : b ≡ a + (b - a) = omega arith in
    let s = sum_span f a (b - a) in
    let s' = ap (sum_below f) e in
    omega arith

-- h periods from the start on bring h requests
pub brought-since : (c t o h a : ℕ) → 0 < t → o ≤ a → brought (requested c t o) a (h * t) ≡ h * c
brought-since c t o h a pos le = go (whereabouts t o a pos)
  where
    span : up_to c t o (a + h * t) ≡ up_to c t o a + brought (requested c t o) a (h * t)
    span = sum_span (requested c t o) a (h * t)

    go : (a < o) ⊎ ((k : ℕ) × (r : ℕ) × (r < t) × (a ≡ o + (k * t + r))) → brought (requested c t o) a (h * t) ≡ h * c
    go (inl l) = absurd (omega arith)
    go (inr (k, zero, lt, e)) =
        let ea : a ≡ o + k * t = omega arith in
        let eb : a + h * t ≡ o + (k + h) * t = let m = add-mul k h t in omega arith in
        let ua = ap (up_to c t o) ea ∙ up_to_request c t o k pos in
        let ub = ap (up_to c t o) eb ∙ up_to_request c t o (k + h) pos in
        let m = add-mul k h c in
        omega (arith, span)
    go (inr (k, suc r, lt, e)) =
        let ea : a ≡ o + k * t + suc r = omega arith in
        let eb : a + h * t ≡ o + (k + h) * t + suc r = let m = add-mul k h t in omega arith in
        let ua = ap (up_to c t o) ea ∙ up_to_within c t o k (suc r) (omega arith) (omega arith) (up_to_request c t o k pos) in
        let ub = ap (up_to c t o) eb ∙ up_to_within c t o (k + h) (suc r) (omega arith) (omega arith) (up_to_request c t o (k + h) pos) in
        let m = add-mul k h c in
        let m₁ = suc-mul k c in
        let m₂ = suc-mul (k + h) c in
        omega (arith, span)

-- h periods bring at most h requests
pub brought_most : (c t o h a : ℕ) → 0 < t → brought (requested c t o) a (h * t) ≤ h * c
brought_most c t o h a pos = go (cases_lt a o)
  where
    go : (a < o) ⊎ (o ≤ a) → brought (requested c t o) a (h * t) ≤ h * c
    go (inl l) =
        let s = sum_span (requested c t o) a (h * t) in
        let r = sum_rises (requested c t o) (a + h * t) (o + h * t) (omega arith) in
        let u = up_to_request c t o h pos in
        omega arith
    go (inr l) = omega (arith, brought-since c t o h a pos l)

-- n ticks bring at most the requests of as many whole periods as cover them
pub brought_cover : (c t o h n a : ℕ) → 0 < t → n ≤ h * t → brought (requested c t o) a n ≤ h * c
brought_cover c t o h n a pos le =
    let s = sum_rises (since a (requested c t o)) n (h * t) le in
    let m = brought_most c t o h a pos in
    omega arith

-- the requests come again after any number of periods
pub comes_again : (c t o h τ : ℕ) → o ≤ τ → requested c t o (h * t + τ) ≡ requested c t o τ
comes_again c t o h τ le =
    let e : (h * t + τ) - o ≡ h * t + (τ - o) = omega arith in
    let m : ((h * t + τ) - o) % t ≡ (τ - o) % t = ap (λ x. x % t) e ∙ mul-add-mod_self_right h t (τ - o) in
    let l₁ = le-leb o (h * t + τ) (omega arith) in
    let l₂ = le-leb o τ le in
    simp (l₁, l₂, m)

pub stream_periodic : (c t o h m : ℕ) → o ≤ m → Periodic (h * t) m (requested c t o)
stream_periodic c t o h m le =
    record { grows = λ τ. grow τ (cases_lt τ o); keeps = λ τ far. comes_again c t o h τ (omega arith) }
  where
    grow : (τ : ℕ) → (τ < o) ⊎ (o ≤ τ) → requested c t o τ ≤ requested c t o (h * t + τ)
    grow τ (inl l) = omega (arith, before_start c t o τ l)
    grow τ (inr l) = omega (arith, comes_again c t o h τ l)

-- a later start, by whole periods, leaves out the first requests and keeps the others
pub left_out : (c t o j τ : ℕ) → o + j * t ≤ τ → requested c t (o + j * t) τ ≡ requested c t o τ
left_out c t o j τ le =
    let e : τ - o ≡ j * t + (τ - (o + j * t)) = omega arith in
    let m : (τ - o) % t ≡ (τ - (o + j * t)) % t = ap (λ x. x % t) e ∙ mul-add-mod_self_right j t (τ - (o + j * t)) in
    let l₁ = le-leb (o + j * t) τ le in
    let l₂ = le-leb o τ (omega arith) in
    simp (l₁, l₂, m)

pub left_out_less : (c t o j τ : ℕ) → requested c t (o + j * t) τ ≤ requested c t o τ
left_out_less c t o j τ = go (cases_lt τ (o + j * t))
  where
    go : (τ < o + j * t) ⊎ (o + j * t ≤ τ) → requested c t (o + j * t) τ ≤ requested c t o τ
    go (inl l) = omega (arith, before_start c t (o + j * t) τ l)
    go (inr l) = omega (arith, left_out c t o j τ l)

-- a common shift of start and tick changes nothing
pub shifted : (c t o s τ : ℕ) → requested c t (s + o) (s + τ) ≡ requested c t o τ
shifted c t o s τ =
    let e : (s + τ) - (s + o) ≡ τ - o = omega arith in
    let b : leb (s + o) (s + τ) ≡ leb o τ = grind (arith, nat_tests) in
    simp (e, b)

-- less work brings fewer units
pub less_work : (c c' t o τ : ℕ) → c' ≤ c → requested c' t o τ ≤ requested c t o τ
less_work c c' t o τ le = go (leb o τ && eqb ((τ - o) % t) 0)
  where
    go : (b : Bool) → cond b c' 0 ≤ cond b c 0
    go true = le
    go false = omega arith
