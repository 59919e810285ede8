-- The periods that a row holds.
use Rattle.std.specs.Prelude.{ℕ, Bool, cond, ◌&&◌, List, [], ◌∷◌, ◌++◌, length, Some, None, Option, nat_le, nat_lt}
use Rattle.std.specs.Option.{option_or}
use Rattle.short_list.specs.Items.{items_of}
use Rattle.periods.specs.Multiples.{most_tasks, longest_period}
use Rattle.periods.specs.declared.row.NotTaken.{NotTaken}
use Rattle.periods.specs.declared.row.NotTaken.TheVariants.{Improper, NoPlace}
use Rattle.periods.specs.declared.row.Periods.{Periods}

abbrev pub periods_of : Periods → List ℕ
periods_of p = items_of p.at

-- a period from 1 to the longest
abbrev pub is_proper : ℕ → Bool
is_proper t = nat_lt 0 t && nat_le t longest_period

-- why one more period is not taken: it is improper, or no place is left
abbrev pub not_taken : List ℕ → ℕ → Option NotTaken
not_taken ts t = cond (is_proper t) (cond (nat_lt (length ts) most_tasks) None (Some NoPlace)) (Some Improper)

-- why one of some periods is not taken, where they are added behind others, in their order
abbrev pub not_taken_after : List ℕ → List ℕ → Option NotTaken
not_taken_after before [] = None
not_taken_after before (t ∷ ts) = option_or (not_taken before t) (not_taken_after (before ++ t ∷ []) ts)

abbrev pub first_not_taken : List ℕ → Option NotTaken
first_not_taken ts = not_taken_after [] ts
