-- A number read as one of a smaller type.
use Rattle.std.proofs.Common.{◌≡◌, ℕ, ◌+◌, ◌<◌, ◌≤◌, ◌^◌, leb, List, Some, None, Ok, Err, Option, Result, MatchOption, pos, unsigned_abs, sym, refl, subst, ◌∙◌, arith}
use Rattle.std.specs.Bool.{then_some}
use Rattle.std.specs.Int.{FitsUnsignedBits}
use Rattle.std.specs.Result.{OkIff, result_ok}
use Rattle.std.proofs.lemmas.Bool.Decides.{nat_tests}
use Rattle.script.specs.Numerals.{number_up_to}
use Rattle.planbook.specs.Reading.{Reads}

-- a conversion of the number read
pub reads_number :
    {T E : Type 0} (gives : ℕ → Result T E → Type 0) (word : List ℕ) (n : ℕ) (made : Result T E) (r : Option T) →
    Some n ≡ number_up_to 4294967295 word → gives n made → r ≡ result_ok made → Reads gives word r
reads_number {T} {E} gives word n made r e given is =
    subst (λ o. MatchOption o (r ≡ None) (λ m. (made : Result T E) × gives m made × (r ≡ result_ok made))) e (made, given, is)

-- a smaller limit
narrow :
    (limit most : ℕ) (word : List ℕ) (o : Option ℕ) → limit ≤ most → o ≡ number_up_to most word →
    MatchOption o (number_up_to limit word ≡ None) (λ n. number_up_to limit word ≡ then_some (leb n limit) n)
narrow limit most word None le e = grind (arith, nat_tests)
narrow limit most word (Some n) le e = grind (arith, nat_tests)

-- the numbers that k bits hold are those up to a limit
pub reads_up_to :
    (E : Type 0) (k limit : ℕ) (word : List ℕ) (r : Option ℕ) → limit ≤ 4294967295 → limit + 1 ≡ 2 ^ k →
    Reads {T = ℕ} {E = E} (λ n made. OkIff made (FitsUnsignedBits k (pos n)) (unsigned_abs (pos n))) word r → r ≡ number_up_to limit word
reads_up_to E k limit word r le top reads = go (number_up_to 4294967295 word) (narrow limit 4294967295 word _ le refl) reads
  where
    made_is : (n : ℕ) (made : Result ℕ E) → OkIff made (n < 2 ^ k) n → result_ok made ≡ then_some (leb n limit) n
    made_is n (Ok m) told = let within = told.0 in let same = told.1 in grind (arith, nat_tests)
    made_is n (Err e) told = let past : n < 2 ^ k → ⊥ = told in grind (arith, nat_tests)

    go :
        (o : Option ℕ) → MatchOption o (number_up_to limit word ≡ None) (λ n. number_up_to limit word ≡ then_some (leb n limit) n) →
        MatchOption o (r ≡ None) (λ n. (made : Result ℕ E) × OkIff made (n < 2 ^ k) n × (r ≡ result_ok made)) →
        r ≡ number_up_to limit word
    go None is told = told ∙ sym is
    go (Some n) is told = told.2 ∙ made_is n told.0 told.1 ∙ sym is
