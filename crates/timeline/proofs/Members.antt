-- The joint demand of some of the tasks: a sum over the places that are members.
use Rattle.std.proofs.Common.{◌≡◌, ℕ, zero, suc, ◌+◌, ◌<◌, ◌≤◌, Bool, true, false, cond, sym, refl, ◌∙◌, subst, arith}
use Rattle.timeline.specs.Processor.{Demands, sum_below}
use Rattle.timeline.proofs.Backlog.{since, brought, sum_below_add, sum_below_none, sum_below_mono, sum_below_same}
use Rattle.timeline.proofs.Repeats.{Periodic}

-- what a member counts
abbrev pub counted : (ℕ → Bool) → (ℕ → ℕ) → ℕ → ℕ
counted member units q = cond (member q) (units q) 0

-- the demand of the members among the first n places
abbrev pub joint : (ℕ → Bool) → Demands → ℕ → ℕ → ℕ
joint member D n τ = sum_below (counted member (λ q. D q τ)) n

-- sums over ticks and over places may be taken in either order
pub sum_exchange : (F : ℕ → ℕ → ℕ) (n m : ℕ) → sum_below (λ i. sum_below (λ j. F i j) m) n ≡ sum_below (λ j. sum_below (λ i. F i j) n) m
sum_exchange F zero m = sym (sum_below_none m)
sum_exchange F (suc n) m =
    let ih = sum_exchange F n m in
    let e = sum_below_add (λ j. sum_below (λ i. F i j) n) (λ j. F n j) m in
    omega arith

pub counted-sum : (b : Bool) (f : ℕ → ℕ) (n : ℕ) → sum_below (λ τ. cond b (f τ) 0) n ≡ cond b (sum_below f n) 0
counted-sum true f n = refl
counted-sum false f n = sum_below_none n

-- what the members bring in n ticks is the sum of what each brings
pub joint-brought :
    (member : ℕ → Bool) (D : Demands) (places a n : ℕ) →
    brought (joint member D places) a n ≡ sum_below (counted member (λ q. brought (D q) a n)) places
joint-brought member D places a n =
    sum_exchange (λ τ q. cond (member q) (D q (a + τ)) 0) n places
    ∙ sum_below_same _ _ places (λ q l. counted-sum (member q) (since a (D q)) n)

pub counted_mono : (member : ℕ → Bool) (v w : ℕ → ℕ) (n : ℕ) → ((q : ℕ) → q < n → member q ≡ true → v q ≤ w q) → sum_below (counted member v) n ≤ sum_below (counted member w) n
counted_mono member v w n h = sum_below_mono (counted member v) (counted member w) n (λ q l. go (member q) (h q l))
  where
    go : {x y : ℕ} (b : Bool) → (b ≡ true → x ≤ y) → cond b x 0 ≤ cond b y 0
    go true k = k refl
    go false k = omega arith

pub counted_same : (member : ℕ → Bool) (v w : ℕ → ℕ) (n : ℕ) → ((q : ℕ) → q < n → member q ≡ true → v q ≡ w q) → sum_below (counted member v) n ≡ sum_below (counted member w) n
counted_same member v w n h = sum_below_same (counted member v) (counted member w) n (λ q l. go (member q) (h q l))
  where
    go : {x y : ℕ} (b : Bool) → (b ≡ true → x ≡ y) → cond b x 0 ≡ cond b y 0
    go true k = k refl
    go false k = refl

-- fewer members bring less
pub fewer_members : (member less : ℕ → Bool) (v : ℕ → ℕ) (n : ℕ) → ((q : ℕ) → less q ≡ true → member q ≡ true) → sum_below (counted less v) n ≤ sum_below (counted member v) n
fewer_members member less v n h = sum_below_mono (counted less v) (counted member v) n (λ q l. go (less q) (member q) (v q) (h q))
  where
    go : (b c : Bool) (x : ℕ) → (b ≡ true → c ≡ true) → cond b x 0 ≤ cond c x 0
    go true c x k = subst (λ z. x ≤ cond z x 0) (sym (k refl)) (omega arith)
    go false c x k = omega arith

-- a sum of demands of period P has it too
pub joint_periodic :
    (P m : ℕ) (member : ℕ → Bool) (D : Demands) (n : ℕ) → ((q : ℕ) → q < n → member q ≡ true → Periodic P m (D q)) →
    Periodic P m (joint member D n)
joint_periodic P m member D n h =
    record {
      grows = λ τ. counted_mono member (λ q. D q τ) (λ q. D q (P + τ)) n (λ q l e. (h q l e).grows τ);
      keeps = λ τ le. counted_same member (λ q. D q (P + τ)) (λ q. D q τ) n (λ q l e. (h q l e).keeps τ le);
    }
