-- The words of a line of a script. Its bytes by number: 9 tab, 10 newline, 13 carriage return, 32 space, 35 #.
use Rattle.std.specs.Prelude.{◌≡◌, ℕ, ◌-◌, ◌<◌, Bool, false, cond, ◌&&◌, ◌||◌, List, [], ◌∷◌, ◌++◌, map, length, take, ◌==◌, nat_lt, slice_index}
use Rattle.std.specs.Borrow.{Bor}
use Rattle.std.specs.List.{AllByRecursion}

-- a text without its last byte where that is c
abbrev pub without_last : ℕ → List ℕ → List ℕ
without_last c bs = cond (nat_lt 0 (length bs) && slice_index bs (length bs - 1) == c) (take (length bs - 1) bs) bs

-- a line without its newline and a carriage return before it
abbrev pub without_end : List ℕ → List ℕ
without_end line = without_last 13 (without_last 10 line)

-- what stands before the first #
abbrev pub before_comment : List ℕ → List ℕ
before_comment [] = []
before_comment (b ∷ bs) = cond (b == 35) [] (b ∷ before_comment bs)

-- a space or a tab
abbrev pub blank : ℕ → Bool
blank b = b == 32 || b == 9

-- a word alone, unless it is empty
abbrev pub single : List ℕ → List (List ℕ)
single [] = []
single (b ∷ word) = (b ∷ word) ∷ []

-- the words of a text that goes on after the first bytes of a word
abbrev pub words_after : List ℕ → List ℕ → List (List ℕ)
words_after word [] = single word
words_after word (b ∷ bs) = cond (blank b) (single word ++ words_after [] bs) (words_after (word ++ (b ∷ [])) bs)

-- the words of a line
abbrev pub words_of : List ℕ → List (List ℕ)
words_of line = words_after [] (before_comment (without_end line))

-- a word has a byte, and none of its bytes is a blank or a #
abbrev pub Word : List ℕ → Type 0
Word word = (0 < length word) × AllByRecursion (λ b. (blank b || b == 35) ≡ false) word

-- what references to texts point to
abbrev pub texts : List (Bor (List ℕ)) → List (List ℕ)
texts = map (λ text. text.now)
