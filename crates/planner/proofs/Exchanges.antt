-- What an exchange of two places leaves of an order.
use Rattle.std.proofs.Common.{◌≡◌, ℕ, length, ap, ◌∙◌}
use native.Mathlib.Bridge.{le_prop}
use native.Mathlib.Nat.{ℕ_set}
use mathlib.Core.HLevel.{is_prop→PathP, Π_prop, ×_prop}
use Rattle.short_list.specs.Items.{items_of}
use Rattle.short_list.proofs.Swaps.{items_swapped, swap_ends}
use Rattle.planner.specs.declared.order.Order.{Order}
use Rattle.planner.specs.Orders.{Exchanged, places_of}
use Rattle.planner.specs.Positions.{place_in, position_in, exchanged, LeadsBack}
use Rattle.planner.proofs.Positions.{length-exchanged}

-- the places of an order after an exchange
pub places_exchanged :
    (i j : ℕ) (before after : Order) → Exchanged i j before after → places_of after ≡ exchanged i j (places_of before)
places_exchanged i j before after there = items_swapped i j before.places after.places there

pub length_after :
    (i j : ℕ) (before after : Order) → Exchanged i j before after → length (places_of after) ≡ length (places_of before)
length_after i j before after there = ap length (places_exchanged i j before after there) ∙ length-exchanged i j (places_of before)

back_prop : (n : ℕ) (there back : ℕ → ℕ) → IsProp (LeadsBack n there back)
back_prop n there back = Π_prop (λ k. Π_prop (λ _. ×_prop le_prop (ℕ_set _ _)))

-- an order is its places
same_order : (a b : Order) → a.places ≡ b.places → a ≡ b
same_order a b same =
    λ i. record {
      places = same i;
      holds =
          is_prop→PathP (λ k. LeadsBack (length (items_of (same k))) (place_in (items_of (same k))) (position_in (items_of (same k))))
          (λ k. back_prop (length (items_of (same k))) (place_in (items_of (same k))) (position_in (items_of (same k)))) a.holds b.holds i;
      has =
          is_prop→PathP (λ k. LeadsBack (length (items_of (same k))) (position_in (items_of (same k))) (place_in (items_of (same k))))
          (λ k. back_prop (length (items_of (same k))) (position_in (items_of (same k))) (place_in (items_of (same k)))) a.has b.has i;
    }

-- a second exchange of the same positions brings the former order back
pub exchange_ends :
    (first second : ℕ) (former before after : Order) → Exchanged first second former before →
    Exchanged first second before after → after ≡ former
exchange_ends first second former before after there back =
    same_order after former (swap_ends first second former.places before.places after.places there back)
