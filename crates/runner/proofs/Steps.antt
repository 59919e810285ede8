-- The steps of an advance, over the list of levels.
use Rattle.std.proofs.Common.{◌≡◌, ℕ, zero, suc, ◌<◌, ◌≤◌, min, ◌⊎◌, List, [], ◌∷◌, length, map, get_or, refl, inl, inr, arith}
use Rattle.std.specs.List.{AllZip, All, fold}
use Rattle.std.proofs.lemmas.Bool.{cases_lt}
use Rattle.std.proofs.lemmas.Bool.Decides.{nat_tests}
use Rattle.std.proofs.lemmas.List.Elements.{All-map}
use Rattle.runner.specs.declared.level.Level.{Level}
use Rattle.runner.specs.Levels.{last_tick, Kept, requested_at}
use Rattle.runner.specs.Processor.{no_task}
use Rattle.runner.specs.Steps.{Soonest}

-- what a function makes of each item
pub map_from_zip :
    {X : Type 0} (R : X → X → Type 0) (v : X → X) → ((x y : X) → R x y → y ≡ v x) → (xs ys : List X) → AllZip R xs ys →
    ys ≡ map v xs
map_from_zip R v same [] [] zip = refl
map_from_zip R v same [] (y ∷ ys) zip = absurd zip
map_from_zip R v same (x ∷ xs) [] zip = absurd zip
map_from_zip R v same (x ∷ xs) (y ∷ ys) zip =
    let head = same x y zip.0 in let tail = map_from_zip R v same xs ys zip.1 in cc

-- a level whose request has been taken is kept
kept_on : (tick : ℕ) (level : Level) → tick ≤ last_tick → Kept tick level → Kept tick (requested_at tick level)
kept_on tick level bounded kept = grind (arith, nat_tests)

pub all_kept :
    (tick : ℕ) (levels : List Level) → tick ≤ last_tick → All (Kept tick) levels → All (Kept tick) (map (requested_at tick) levels)
all_kept tick levels bounded kept =
    All-map (Kept tick) (requested_at tick) levels (λ k d h. kept_on tick _ bounded (kept k d h))

-- one more level, in front of the others
soonest_more : (x : Level) (xs : List Level) (end tick : ℕ) → Soonest xs (min end x.next) tick → Soonest (x ∷ xs) end tick
soonest_more x xs end tick rest =
    record { before_end = omega (arith, rest.before_end); before_next = before; reached = go (cases_lt end x.next) rest.reached }
  where
    before : (l : ℕ) → l < length (x ∷ xs) → tick ≤ (get_or (x ∷ xs) l no_task).next
    before zero h = omega (arith, rest.before_end)
    before (suc l) h = rest.before_next l (omega arith)

    go :
        (end < x.next) ⊎ (x.next ≤ end) → (tick ≡ min end x.next) ⊎ ((l : ℕ) × (l < length xs) × ((get_or xs l no_task).next ≡ tick)) →
        (tick ≡ end) ⊎ ((l : ℕ) × (l < length (x ∷ xs)) × ((get_or (x ∷ xs) l no_task).next ≡ tick))
    go _ (inr (l, inside, at)) = inr (suc l, omega arith, at)
    go (inl before) (inl at) = inl (omega arith)
    go (inr from) (inl at) = inr (0, omega arith, omega arith)

-- the soonest request, by the fold that finds it
pub soonest_is :
    (levels : List Level) (end tick : ℕ) → tick ≡ fold (λ soonest level. min soonest level.next) end levels →
    Soonest levels end tick
soonest_is [] end tick e =
    record { before_end = omega arith; before_next = λ l h. absurd (omega arith); reached = inl e }
soonest_is (x ∷ xs) end tick e = soonest_more x xs end tick (soonest_is xs (min end x.next) tick e)
