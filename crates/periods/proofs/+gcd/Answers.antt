use Rattle.std.proofs.Common.{◌≡◌, ℕ, sym, ap, ◌∙◌, subst, arith}
use Rattle.periods.specs.Divisors.{gcd, GreatestCommonDivisor}
use Rattle.periods.proofs.Euclid.{gcd_zero, gcd_step, gcd_greatest}
use Rattle.periods.proofs.+gcd.Goals as goal

-- what is Euclid's value is the greatest common divisor
of_value : (a b r : ℕ) → r ≡ gcd a b → record { value : r ≡ gcd a b; greatest : GreatestCommonDivisor a b r }
of_value a b r e = record { value = e; greatest = subst (GreatestCommonDivisor a b) (sym e) (gcd_greatest a b) }

pub returns-then-b-eq0 : goal.returns-then-b-eq0
returns-then-b-eq0 t c =
    let a = c.args.a in
    of_value a c.args.b a (sym (ap (gcd a) c.if-b-eq0.true ∙ gcd_zero a))

pub returns-else-b-eq0 : goal.returns-else-b-eq0
returns-else-b-eq0 t c =
    let step = gcd_step c.args.a c.args.b (omega arith) in
    of_value c.args.a c.args.b c.gcd.result (c.gcd.ensures.value ∙ sym step)
