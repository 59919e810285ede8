-- Numbers as a script writes them: decimal digits, at least one, leading zeros allowed.
use Rattle.std.specs.Prelude.{ℕ, ◌+◌, ◌-◌, ◌*◌, cond, ◌&&◌, List, [], ◌∷◌, length, Some, None, Option, nat_le, nat_lt}
use Rattle.std.specs.Str.{all_ascii_digits}

-- the number that digits write after those of n
abbrev pub value_after : ℕ → List ℕ → ℕ
value_after n [] = n
value_after n (c ∷ cs) = value_after (n * 10 + (c - 48)) cs

-- the number that a word of digits writes
abbrev pub value : List ℕ → ℕ
value word = value_after 0 word

-- that number, where the word is one of digits and the number is at most the limit
abbrev pub number_up_to : ℕ → List ℕ → Option ℕ
number_up_to limit word = cond (nat_lt 0 (length word) && (all_ascii_digits word && nat_le (value word) limit)) (Some (value word)) None
