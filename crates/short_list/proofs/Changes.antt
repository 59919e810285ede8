-- A list whose items are changed one after another.
use Rattle.std.proofs.Common.{◌≡◌, ℕ, ◌+◌, ◌<◌, ◌≤◌, ◌≢◌, List, get_or, set, take, length, sym, ap, ◌∙◌, arith, get_or-set_other, subst}
use Rattle.std.proofs.lemmas.List.{take_more_set}
use Rattle.std.proofs.lemmas.List.Elements.{all_zip_more}
use Rattle.std.specs.List.{AllZip}

-- the items before a place are changed, and those from it on are not
pub record ChangedBelow {X : Type 0} (R : X → X → Type 0) (old new : List X) (place : ℕ) : Type 0 where
  pub changed : AllZip R (take place old) (take place new)
  pub rest : (k : ℕ) (d : X) → place ≤ k → get_or new k d ≡ get_or old k d

pub changed_more :
    {X : Type 0} (R : X → X → Type 0) (old new : List X) (place : ℕ) (x y : X) → ChangedBelow R old new place →
    length new ≡ length old → place < length new → x ≡ get_or new place x → R x y →
    ChangedBelow R old (set new place y) (place + 1)
changed_more {X} R old new place x y below long inside is step =
    record {
      changed = subst (AllZip R (take (place + 1) old)) (sym (take_more_set new place y inside))
          (all_zip_more R old (take place new) place x y (omega arith) old-is below.changed step);
      rest = λ k d h. let ne : k ≢ place = omega arith in rw get_or-set_other (below.rest k d (omega arith));
    }
  where
    old-is : x ≡ get_or old place x
    old-is = let e = below.rest place x (omega arith) in cc

-- an item is changed where a function gives something of it, or it stays
module _ {X : Type 0} (R : X → X → Type 0) (old new items : List X) (place : ℕ) (x : X) (below : ChangedBelow R old new place)
    (long : length new ≡ length old) (inside : place < length new) (is : x ≡ get_or new place x) where
  pub changed_to : (y : X) → items ≡ set new place y → R x y → ChangedBelow R old items (place + 1)
  changed_to y to step =
      subst (λ list. ChangedBelow R old list (place + 1)) (sym to) (changed_more R old new place x y below long inside is step)

  pub stays_as : items ≡ set new place (get_or new place x) → R x x → ChangedBelow R old items (place + 1)
  stays_as same step = changed_to x (same ∙ sym (ap (set new place) is)) step
