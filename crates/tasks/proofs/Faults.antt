-- Faults of figures.
use Rattle.std.proofs.Common.{◌≡◌, true, None, arith}
use Rattle.std.proofs.lemmas.Bool.Decides.{nat_tests}
use Rattle.tasks.specs.declared.figures.Figures.{Figures}
use Rattle.tasks.specs.Figures.{Fair, is_fair, first_fault}

pub fair_from_none : (f : Figures) → first_fault f ≡ None → Fair f
unfolding first_fault
fair_from_none f none = grind (arith, nat_tests)

pub none_from_fair : (f : Figures) → Fair f → first_fault f ≡ None
unfolding first_fault
none_from_fair f fair = grind (arith, nat_tests)

pub fair_from_test : (f : Figures) → is_fair f ≡ true → Fair f
fair_from_test f test = grind (arith, nat_tests)

pub test_from_fair : (f : Figures) → Fair f → is_fair f ≡ true
test_from_fair f fair = grind (arith, nat_tests)
