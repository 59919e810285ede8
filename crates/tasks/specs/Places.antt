-- Sets of places, counted from 0.
use Rattle.std.specs.Prelude.{ℕ, Bool, false, ◌&&◌, ◌||◌, ◌==◌, nat_lt, slice_index_or}
use Rattle.periods.specs.Multiples.{most_tasks}
use Rattle.tasks.specs.declared.places.Places.{Places}

abbrev pub has : Places → ℕ → Bool
has places place = slice_index_or places.has place false

-- with one place more, if it is one of the first eight
abbrev pub added : Places → ℕ → ℕ → Bool
added places place other = (other == place && nat_lt place most_tasks) || has places other
