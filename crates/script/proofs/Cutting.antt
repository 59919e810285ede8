-- Cutting a line into words.
use Rattle.std.proofs.Common.{◌≡◌, ℕ, ◌+◌, ◌<◌, ◌≤◌, get_or, drop, Bool, true, false, not, cond, ◌||◌, eqb, List, [], ◌∷◌, ◌++◌, length, take, unwrap_or, sym, refl, ap, ◌∙◌, append_assoc, arith}
use Rattle.std.specs.List.{AllByRecursion as All, between, position, slice_split, onto_first, filter, take_while}
use Rattle.std.proofs.lemmas.List.{append-nil, at_drop_more, at_drop_all}
use Rattle.std.proofs.lemmas.List.Edits.{between_more, between_none}
use Rattle.std.proofs.lemmas.List.Splits.{length-slice_split}
use Rattle.std.proofs.lemmas.List.Sums.{take_while-cons}
use Rattle.std.proofs.lemmas.Grind.{common_steps}
use Rattle.std.proofs.ByRecursion.{All-append, All-push}
use Rattle.std.proofs.lemmas.Bool.{cond-true, cond-false, cond_both, or_from}
use Rattle.std.proofs.lemmas.Bool.Decides.{nat_tests}
use Rattle.script.specs.Words.{without_end, before_comment, blank, single, words_after, words_of, Word}

-- where a comment begins
abbrev hash : ℕ → Bool
hash b = eqb b 35

cond-not : (test : Bool) (x y : List ℕ) → cond test y x ≡ cond (not test) x y
cond-not true x y = refl
cond-not false x y = refl

-- what stands before a comment, in the library's words
front_is : (text : List ℕ) → before_comment text ≡ take_while (λ b. not (hash b)) text
front_is [] = refl
front_is (b ∷ text) =
    ap (cond (hash b) []) (ap (λ rest. b ∷ rest) (front_is text))
    ∙ cond-not (hash b) (b ∷ take_while (λ x. not (hash x)) text) []
    ∙ sym (take_while-cons (λ x. not (hash x)) b text)

-- it ends at the first #, or with the text
pub comment_end : (text : List ℕ) → take (unwrap_or (position hash text) (length text)) text ≡ before_comment text
comment_end text = let is = front_is text in grind (arith, nat_tests, common_steps)

-- a text that is not empty
abbrev pub some : List ℕ → Bool
some word = not (eqb (length word) 0)

-- the first part goes on after the bytes of a word
abbrev after : List ℕ → List (List ℕ) → List (List ℕ)
after word [] = word ∷ []
after word (part ∷ parts) = (word ++ part) ∷ parts

after_onto : (word : List ℕ) (b : ℕ) (parts : List (List ℕ)) → after word (onto_first b parts) ≡ after (word ++ (b ∷ [])) parts
after_onto word b [] = refl
after_onto word b (part ∷ parts) = ap (λ front. front ∷ parts) (sym (append_assoc word (b ∷ []) part))

single_is : (word : List ℕ) (parts : List (List ℕ)) → filter some (word ∷ parts) ≡ single word ++ filter some parts
single_is [] parts = refl
single_is (b ∷ word) parts = grind (arith, nat_tests)

-- after no bytes it is the part itself, and a cut gives at least one
after_none : (parts : List (List ℕ)) → 0 < length parts → after [] parts ≡ parts
after_none [] more = absurd (omega arith)
after_none (part ∷ parts) more = refl

cut_first : (bs : List ℕ) → after [] (slice_split blank bs) ≡ slice_split blank bs
cut_first bs = after_none (slice_split blank bs) (omega (arith, length-slice_split blank bs))

-- the words after those bytes are the parts between the blanks, without the empty ones
cut_after : (word bs : List ℕ) → filter some (after word (slice_split blank bs)) ≡ words_after word bs
cut_after word [] = single_is (word ++ []) [] ∙ append-nil (single (word ++ [])) ∙ ap single (append-nil word)
cut_after word (b ∷ bs) =
    cond_both (blank b) _ _ (λ parts. filter some (after word parts) ≡ words_after word (b ∷ bs))
    (λ is.
    single_is (word ++ []) (slice_split blank bs)
    ∙ ap (λ front. single front ++ filter some (slice_split blank bs)) (append-nil word)
    ∙ ap (λ parts. single word ++ filter some parts) (sym (cut_first bs))
    ∙ ap (λ rest. single word ++ rest) (cut_after [] bs)
    ∙ sym (cond-true (blank b) _ _ is))
    (λ other. ap (filter some) (after_onto word b (slice_split blank bs)) ∙ cut_after (word ++ (b ∷ [])) bs ∙ sym (cond-false (blank b) _ _ other))

-- the words of a text are the parts between its blanks, without the empty ones
pub cut : (bs : List ℕ) → filter some (slice_split blank bs) ≡ words_after [] bs
cut bs = ap (filter some) (sym (cut_first bs)) ∙ cut_after [] bs

-- a word that has a byte stands alone
pub single_some : (word : List ℕ) → 0 < length word → single word ≡ word ∷ []
single_some [] some = absurd (omega arith)
single_some (b ∷ word) some = refl

-- of the words found and those to come, after the word begun at start: at i stands a blank, ..
pub word_ends : (found : List (List ℕ)) (text : List ℕ) (start i : ℕ) → i < length text → blank (get_or text i 0) ≡ true → found ++ words_after (between start i text) (drop i text) ≡ (found ++ single (between start i text)) ++ words_after (between (i + 1) (i + 1) text) (drop (i + 1) text)
word_ends found text start i inside is =
    at_drop_more (λ rest. found ++ words_after (between start i text) rest) text i 0 inside
    ∙ ap (λ words. found ++ words) (cond-true _ _ _ is)
    ∙ sym (append_assoc found (single (between start i text)) _)
    ∙ ap (λ word. (found ++ single (between start i text)) ++ words_after word (drop (i + 1) text)) (sym (between_none text (i + 1)))

-- .. or the word goes on, ..
pub word_more : (found : List (List ℕ)) (text : List ℕ) (start i : ℕ) → i < length text → start ≤ i → blank (get_or text i 0) ≡ false → found ++ words_after (between start i text) (drop i text) ≡ found ++ words_after (between start (i + 1) text) (drop (i + 1) text)
word_more found text start i inside begun other =
    at_drop_more (λ rest. found ++ words_after (between start i text) rest) text i 0 inside
    ∙ ap (λ words. found ++ words) (cond-false _ _ _ other)
    ∙ ap (λ word. found ++ words_after word (drop (i + 1) text)) (sym (between_more text start i 0 begun inside))

-- .. or the text ends
pub word_last : (found : List (List ℕ)) (text : List ℕ) (start i : ℕ) → i ≡ length text → found ++ words_after (between start i text) (drop i text) ≡ found ++ single (between start (length text) text)
word_last found text start i e =
    at_drop_all (λ rest. found ++ words_after (between start i text) rest) text i (omega arith)
    ∙ ap (λ j. found ++ single (between start j text)) e

-- a byte that neither parts words nor begins a comment
abbrev Inner : ℕ → Type 0
Inner b = (blank b || eqb b 35) ≡ false

all_single : (word : List ℕ) → All Inner word → All Word (single word)
all_single [] inner = tt
all_single (b ∷ word) inner = ((omega arith, inner), tt)

all_words_after : (word bs : List ℕ) → All Inner word → All (λ b. eqb b 35 ≡ false) bs → All Word (words_after word bs)
all_words_after word [] inner plain = all_single word inner
all_words_after word (b ∷ bs) inner plain =
    cond_both (blank b) _ _ (All Word)
    (λ is. All-append Word (single word) (words_after [] bs) (all_single word inner) (all_words_after [] bs tt plain.1))
    (λ other. all_words_after (word ++ (b ∷ [])) bs (All-push Inner word b inner (or_from _ _ other plain.0)) plain.1)

all_before_comment : (bs : List ℕ) → All (λ b. eqb b 35 ≡ false) (before_comment bs)
all_before_comment [] = tt
all_before_comment (b ∷ bs) = cond_both (eqb b 35) _ _ (All (λ c. eqb c 35 ≡ false)) (λ is. tt) (λ other. (other, all_before_comment bs))

-- what a line is cut into are words
pub all_words_of : (line : List ℕ) → All Word (words_of line)
all_words_of line = all_words_after [] (before_comment (without_end line)) tt (all_before_comment (without_end line))
