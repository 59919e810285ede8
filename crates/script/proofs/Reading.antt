-- Reading a number digit by digit.
use Rattle.std.proofs.Common.{◌≡◌, ℕ, ◌+◌, ◌-◌, ◌*◌, ◌<◌, ◌≤◌, true, false, cond, ◌&&◌, eqb, leb, List, [], ◌∷◌, length, get_or, drop, Some, None, Option, sym, ap, ◌∙◌, arith}
use Rattle.std.specs.Char.{is_ascii_digit}
use Rattle.std.specs.Str.{all_ascii_digits}
use Rattle.std.proofs.lemmas.List.{at_drop_more, at_drop_all}
use Rattle.std.proofs.lemmas.Bool.Decides.{nat_tests}
use Rattle.script.specs.Numerals.{value_after, number_up_to}

-- the digits still to come, after those of n
abbrev pub read_after : ℕ → ℕ → List ℕ → Option ℕ
read_after limit n cs = cond (all_ascii_digits cs && leb (value_after n cs) limit) (Some (value_after n cs)) None

-- digits more make no number less
value_after_ge : (n : ℕ) (cs : List ℕ) → n ≤ value_after n cs
value_after_ge n [] = omega arith
value_after_ge n (c ∷ cs) = omega (arith, value_after_ge (n * 10 + (c - 48)) cs)

-- a digit in front is read
read_digit : (limit n c : ℕ) (cs : List ℕ) → is_ascii_digit c ≡ true → read_after limit n (c ∷ cs) ≡ read_after limit (n * 10 + (c - 48)) cs
read_digit limit n c cs is = grind (arith, nat_tests)

-- of what stands from i on: no digit, ..
pub stops_at : (limit n i : ℕ) (word : List ℕ) → i < length word → is_ascii_digit (get_or word i 0) ≡ false → read_after limit n (drop i word) ≡ None
stops_at limit n i word inside other = at_drop_more (read_after limit n) word i 0 inside ∙ grind (arith, nat_tests)

-- .. or a digit, of the value d
pub digit_more : (limit n i d : ℕ) (word : List ℕ) → i < length word → is_ascii_digit (get_or word i 0) ≡ true → d ≡ get_or word i 0 - 48 → read_after limit n (drop i word) ≡ read_after limit (n * 10 + d) (drop (i + 1) word)
digit_more limit n i d word inside is e =
    at_drop_more (read_after limit n) word i 0 inside
    ∙ read_digit limit n (get_or word i 0) (drop (i + 1) word) is
    ∙ ap (λ m. read_after limit (n * 10 + m) (drop (i + 1) word)) (sym e)

-- a number past the limit stays past it
pub past_limit : (limit n : ℕ) (cs : List ℕ) → limit < n → read_after limit n cs ≡ None
past_limit limit n cs past = let ge = value_after_ge n cs in grind (arith, nat_tests)

-- all digits are read
pub all_read : (limit n i : ℕ) (word : List ℕ) → length word ≤ i → n ≤ limit → read_after limit n (drop i word) ≡ Some n
all_read limit n i word end within = at_drop_all (read_after limit n) word i end ∙ grind (arith, nat_tests)

-- a word that is not empty is read from its front
pub read_whole : (limit : ℕ) (word : List ℕ) → eqb (length word) 0 ≡ false → read_after limit 0 word ≡ number_up_to limit word
read_whole limit word some = grind (arith, nat_tests)
