-- A word read as a number of a type that may be smaller.
use Rattle.std.specs.Prelude.{◌≡◌, ℕ, List, None, Option, Result, MatchOption}
use Rattle.std.specs.Result.{result_ok}
use Rattle.script.specs.Numerals.{number_up_to}

-- nothing, unless the word writes a number below 2 ^ 32; else what the type's conversion makes of that, by the relation `gives`
abbrev pub Reads : {T E : Type 0} → (ℕ → Result T E → Type 0) → List ℕ → Option T → Type 0
Reads {T} {E} gives word r = MatchOption (number_up_to 4294967295 word) (r ≡ None) (λ n. (made : Result T E) × gives n made × (r ≡ result_ok made))
