-- What a short list holds.
use Rattle.std.specs.Prelude.{◌≡◌, ℕ, List, take, length, ◌&&◌, cond, nat_lt}
use Rattle.std.specs.List.{swap}
use Rattle.short_list.specs.declared.list.ShortList.{ShortList}

-- the items, in order
abbrev pub items_of : {T : Type 0} {N : ℕ} → ShortList T N → List T
items_of list = take list.len list.slots

-- two items in each other's place; where one of them is not there, nothing changes
abbrev pub with_swapped : {T : Type 0} → ℕ → ℕ → List T → List T
with_swapped first second items = cond (nat_lt first (length items) && nat_lt second (length items)) (swap items first second) items

-- The same of a list as a whole: what its free slots hold stays too, so that a second swap gives the former value.
pub record Swapped {T : Type 0} {N : ℕ} (first second : ℕ) (before after : ShortList T N) : Type 0 where
  pub count : after.len ≡ before.len
  pub slots :
      after.slots
      ≡ cond (nat_lt first before.len && nat_lt second before.len) (swap before.slots first second) before.slots
