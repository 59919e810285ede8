-- Bytes that are more than any sheet has.
use Rattle.std.proofs.Common.{◌≡◌, ℕ, ◌+◌, ◌*◌, ◌<◌, false, ltb, List, length, take, Some, Option, sym, ap, ap₂, ◌∙◌, inl, inr, arith}
use Rattle.std.specs.Prelude.{not, ◌||◌, ◌==◌}
use Rattle.std.specs.Bool.{then_some}
use Rattle.std.specs.Option.{option_or}
use Rattle.std.proofs.lemmas.Bool.{cases_lt}
use Rattle.std.proofs.lemmas.Bool.Decides.{nat_tests}
use Rattle.std.proofs.lemmas.List.{get_or-take, length-take-le, take_all}
use Rattle.periods.specs.Multiples.{most_tasks}
use Rattle.sheets.specs.Bytes.{longest_sheet, sheet_length, number_at, header_fault, sheet_fault}
use Rattle.sheets.specs.Checks.{count_fault}
use Rattle.sheets.specs.Sheets.{ShowsEarly}
use Rattle.sheets.specs.declared.fault.SheetFault.{SheetFault}
use Rattle.sheets.specs.declared.fault.SheetFault.TheVariants.{WrongLength}

-- no length fits both so few tasks and so many bytes
wrong_length :
    (count told many : ℕ) → longest_sheet < many → (rest : Option SheetFault) →
    option_or
    (option_or (count_fault count) (then_some (not (told == sheet_length count) || not (told == many)) WrongLength))
    rest
    ≡ option_or (count_fault count) (Some WrongLength)
wrong_length count told many long rest = grind (arith, nat_tests)

-- only a fault of the count comes before that of the length
too_long : (bytes : List ℕ) → longest_sheet < length bytes → sheet_fault bytes ≡ option_or (count_fault (number_at 0 bytes)) (Some WrongLength)
too_long bytes long =
    let header : ltb (length bytes) 4 ≡ false = grind (arith, nat_tests) in
    rw header (wrong_length (number_at 0 bytes) (number_at 2 bytes) (length bytes) long _)

pub shows_early : (bytes : List ℕ) → ShowsEarly bytes
shows_early bytes =
    let n = longest_sheet + 1 in
    elim (cases_lt longest_sheet (length bytes)) [
      | inl many ↦
          let cut = length-take-le n bytes (omega arith) in
          let same : number_at 0 (take n bytes) ≡ number_at 0 bytes =
          ap₂ (λ high low. high * 256 + low) (get_or-take n bytes 0 0 (omega arith)) (get_or-take n bytes 1 0 (omega arith)) in
          too_long (take n bytes) (omega (arith, cut))
          ∙ ap (λ count. option_or (count_fault count) (Some WrongLength)) same
          ∙ sym (too_long bytes many)
      | inr few ↦ ap sheet_fault (take_all n bytes (omega arith))
    ]
