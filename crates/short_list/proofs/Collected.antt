-- A short list of what an iterator over slices gives.
use Rattle.std.proofs.Common.{◌≡◌, ℕ, ◌<◌, ◌≤◌, true, List, [], ◌∷◌, length, map, take, ◌⊎◌, inl, inr, Some, None, Option, Ok, Result, Bor, refl, sym, ap, ◌∙◌, ap₂, subst, arith}
use lib.ListN.{length-map}
use Rattle.std.specs.Prelude.{IfOk, option_map}
use Rattle.std.specs.Fn.{Mut}
use Rattle.std.specs.Iterator.{ActsAs}
use Rattle.std.specs.Iterator.Runs.{Run, EachRunFrom, EveryRun, SomeRun, WholeRun, IsMapRun, IsZipRun, ItemsCountUp, ItemsMapTo}
use Rattle.std.specs.List.{range_with_len, zip}
use Rattle.std.proofs.lemmas.List.{ext_get_or, get_or-map, get_or-take, length-take-le, take_all}
use Rattle.std.proofs.lemmas.List.FromFn.{length-range_with_len, get_or-range_with_len}
use Rattle.std.proofs.lemmas.Simd.{map-map}
use Rattle.std.proofs.lemmas.Option.{same_Some}
use Rattle.short_list.specs.Items.{items_of}
use Rattle.short_list.specs.declared.list.Full.{Full}
use Rattle.short_list.specs.declared.list.ShortList.{ShortList}

-- a list of what a function gives of each item of a source
pub collected :
    {S T A B F : Type 0} {N : ℕ} {steps : S → Option B → S → Type 0} {source : T → Option A → T → Type 0}
    {g : Mut F (A × Unit {0}) B} {f : F} {s : S} {t : T} (r : Result (ShortList B N) Full) (list : ShortList B N)
    (of : A → B) → ActsAs g f of → r ≡ Ok list →
    IfOk r (λ list. WholeRun steps s (λ run. items_of list ≡ run.items)) →
    EachRunFrom steps s (λ p. SomeRun source t (λ q. IsMapRun p q g f)) →
    WholeRun source t (λ run. items_of list ≡ map of run.items)
collected {B = B} {N = N} {steps = steps} {s = s} r list of acts is all maps =
    let Of : Result (ShortList B N) Full → Type 0 = λ r. IfOk r (λ list. WholeRun steps s (λ run. items_of list ≡ run.items)) in
    let run = subst Of is all in
    let from = maps run.0 run.0.seen run.1 in
    (from.0, from.1, from.2.0 ∙ run.2, run.3 ∙ from.2.3 of acts)

-- the items of a run over a slice are the first ones of the slice
module _ {S A B : Type 0} {steps : S → Option A → S → Type 0} (p : Run steps) (of : A → B) (xs : List B) (read : ItemsMapTo p of xs) where
  pub first_items : map of p.items ≡ take p.len xs
  first_items = go p.items refl
    where
      told : (o : Option A) (x : A) (y : B) → option_map (λ item. item) o ≡ Some x → option_map of o ≡ Some y → of x ≡ y
      told (Some z) x y is was = ap of (sym (same_Some _ _ is)) ∙ same_Some _ _ was
      told None x y is was = cc

      go : (items : List A) → items ≡ p.items → map of p.items ≡ take p.len xs
      go [] none = let nothing : p.len ≡ 0 = p.long ∙ ap length (sym none) in ap (map of) (sym none) ∙ ap (λ n. take n xs) (sym nothing)
      go (blank ∷ items) some =
          let long : length (map of p.items) ≡ p.len = length-map p.items of ∙ sym p.long in
          ext_get_or (of blank) _ _ (long ∙ sym (length-take-le p.len xs read.0)) (λ k inside.
          let below : k < p.len = omega (arith, long) in
          get_or-map of p.items k blank (of blank) (omega (arith, p.long))
          ∙ told (p.at k) _ _ (p.reads k blank below) (read.2 k (of blank) below)
          ∙ sym (get_or-take p.len xs k (of blank) below))

-- a whole run over a range from 0 counts up to its end
pub counted_up :
    {S : Type 0} {steps : S → Option ℕ → S → Type 0} (p : Run steps) (n : ℕ) → p.whole ≡ true → ItemsCountUp p 0 n →
    p.items ≡ range_with_len 0 n
counted_up p n whole counts =
    let long : length p.items ≡ n = omega (arith, p.long, counts.1 whole) in
    ext_get_or 0 _ _ (long ∙ sym (length-range_with_len 0 n)) (λ k inside.
    let below : k < p.len = omega (arith, p.long) in
    same_Some _ _ (sym (p.reads k 0 below) ∙ counts.3 k below)
    ∙ sym (get_or-range_with_len 0 n k 0 (omega (arith, long))))

-- two lists side by side, as far as both go
module _ {A B C : Type 0} (of : A → B → C) where
  abbrev pub paired : List A → List B → List C
  paired xs ys = map (λ pair. of pair.0 pair.1) (zip xs ys)

  paired_front : (xs : List A) (ys : List B) → paired xs (take (length xs) ys) ≡ paired xs ys
  paired_front [] ys = refl
  paired_front (x ∷ xs) [] = refl
  paired_front (x ∷ xs) (y ∷ ys) = ap (λ rest. of x y ∷ rest) (paired_front xs ys)

  paired_map : {P : Type 0} (a : P → A) (b : P → B) (ps : List P) → map (λ p. of (a p) (b p)) ps ≡ paired (map a ps) (map b ps)
  paired_map a b [] = refl
  paired_map a b (p ∷ ps) = ap (λ rest. of (a p) (b p) ∷ rest) (paired_map a b ps)

-- the items of two slices side by side, of which the second is no shorter
module _
    {S T U A B C : Type 0} {steps : S → Option (Bor A × Bor B) → S → Type 0} {first : T → Option (Bor A) → T → Type 0}
    {second : U → Option (Bor B) → U → Type 0} (p : Run steps) (a : Run first) (b : Run second) (zips : IsZipRun p a b)
    (xs : List A) (ys : List B) (reads : ItemsMapTo a (λ item. item.now) xs) (others : ItemsMapTo b (λ item. item.now) ys)
  where
    pub all_pairs :
        (of : A → B → C) → p.whole ≡ true → length xs ≤ length ys →
        map (λ pair. of pair.0.now pair.1.now) p.items ≡ paired of xs ys
    all_pairs of whole long =
        let all = reached long (zips.2 whole) in
        let lefts : map (λ pair. pair.0.now) p.items ≡ xs =
        sym (map-map (λ item. item.now) (λ pair. pair.0) p.items) ∙ ap (map (λ item. item.now)) (sym zips.0.1)
        ∙ first_items a (λ item. item.now) xs reads ∙ take_all a.len xs (omega (arith, all, zips.0.0)) in
        let rights : map (λ pair. pair.1.now) p.items ≡ take (length xs) ys =
        sym (map-map (λ item. item.now) (λ pair. pair.1) p.items) ∙ ap (map (λ item. item.now)) (sym zips.1.1)
        ∙ first_items b (λ item. item.now) ys others ∙ ap (λ n. take n ys) (zips.1.0 ∙ all) in
        paired_map of (λ pair. pair.0.now) (λ pair. pair.1.now) p.items ∙ ap₂ (paired of) lefts rights ∙ paired_front of xs ys
      where
        reached : length xs ≤ length ys → (a.whole ≡ true) ⊎ (b.whole ≡ true) → p.len ≡ length xs
        reached long (inl ended) = omega (arith, zips.0.0, reads.1 ended)
        reached long (inr ended) = omega (arith, long, zips.0.0, zips.1.0, reads.0, others.1 ended)

module _
    {S A C F : Type 0} {N : ℕ} {steps : S → Option C → S → Type 0} {s : S} {f : F} (r : Result (ShortList C N) Full) (list : ShortList C N)
    (is : r ≡ Ok list) (all : IfOk r (λ list. WholeRun steps s (λ run. items_of list ≡ run.items)))
  where
    -- what a function gives of each item of a slice
    pub collected_items :
        {T : Type 0} {source : T → Option (Bor A) → T → Type 0} {t : T} {g : Mut F (Bor A × Unit {0}) C} (rest : T → List A)
        (of : A → C) → ActsAs g f (λ item. of item.now) →
        EachRunFrom steps s (λ p. SomeRun source t (λ q. IsMapRun p q g f)) →
        EveryRun source (λ q. ItemsMapTo q (λ item. item.now) (rest q.from)) →
        items_of list ≡ map of (rest t)
    collected_items rest of acts maps reads =
        let run = collected r list (λ item. of item.now) acts is all maps in
        run.3 ∙ sym (map-map of (λ item. item.now) run.0.items)
        ∙ ap (map of) ((reads run.0 run.0.seen).4 run.2) ∙ ap (λ state. map of (rest state)) run.1

    -- what it gives of the items of two slices side by side, of which the second is no shorter
    pub collected_pairs :
        {T U Z B : Type 0} {first : T → Option (Bor A) → T → Type 0} {second : U → Option (Bor B) → U → Type 0} {a : T} {b : U}
        {pairs : Z → Option (Bor A × Bor B) → Z → Type 0} {z : Z} {g : Mut F ((Bor A × Bor B) × Unit {0}) C}
        (rest : T → List A) (others : U → List B) (of : A → B → C) → ActsAs g f (λ pair. of pair.0.now pair.1.now) →
        EachRunFrom steps s (λ p. SomeRun pairs z (λ q. IsMapRun p q g f)) →
        EachRunFrom pairs z (λ p. SomeRun first a (λ u. SomeRun second b (λ v. IsZipRun p u v))) →
        EveryRun first (λ q. ItemsMapTo q (λ item. item.now) (rest q.from)) →
        EveryRun second (λ q. ItemsMapTo q (λ item. item.now) (others q.from)) →
        length (rest a) ≤ length (others b) →
        items_of list ≡ paired of (rest a) (others b)
    collected_pairs rest others of acts maps zips reads more long =
        let run = collected r list (λ pair. of pair.0.now pair.1.now) acts is all maps in
        let sides = zips run.0 run.0.seen run.1 in
        let u = sides.0 in
        let v = sides.2.0 in
        let left = subst (λ state. ItemsMapTo u (λ item. item.now) (rest state)) sides.1 (reads u u.seen) in
        let right = subst (λ state. ItemsMapTo v (λ item. item.now) (others state)) sides.2.1 (more v v.seen) in
        run.3 ∙ all_pairs run.0 u v sides.2.2 _ _ left right of run.2 long
