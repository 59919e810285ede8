use Rattle.std.proofs.Common.{◌≡◌, [], ◌∷◌, ◌++◌, refl, ap, arith, rules}
use Rattle.std.proofs.lemmas.Bool.Decides.{nat_tests}
use Rattle.short_list.specs.Items.{items_of}
use Rattle.periods.specs.Listed.{number_of_choices}
use Rattle.periods.proofs.Common.{choices_times_period}
use Rattle.periods.proofs.Places.{radices_none, radices_more, radices_within}
use Rattle.periods.proofs.Starts.{one_listed_choice}
use Rattle.periods.proofs.row.Periods.choices.Goals as goal

pub returns-in_err-common_period-clause-one : goal.returns-in_err-common_period-clause-one
returns-in_err-common_period-clause-one c = one_listed_choice _ c.args.self.now.proper

pub returns-in_err-common_period-clause-number : goal.returns-in_err-common_period-clause-number
returns-in_err-common_period-clause-number c = choices_times_period _

pub loop-period-init : goal.loop-period-init
loop-period-init c = (radices_none _ _ c.as_slice-period-items.ensures.proper c.new-radices.ensures, omega arith)

pub returns-then-total-gt-MOST_CHOICES-clause-value :
    goal.returns-then-total-gt-MOST_CHOICES-clause-value
returns-then-total-gt-MOST_CHOICES-clause-value c =
    let slice = c.as_slice-period-items.ensures in
    let more = radices_more _ _ _ _ _ _ _ _ c.loop-period-test.true slice.proper c.loop-period.invariant.0
    c.from-period.ensures c.gcd-shared.ensures.value refl in
    let within = radices_within _ _ _ _ _ slice.proper more in
    grind (arith, nat_tests, c.in_ok-common_period.ensures.value, within, ap number_of_choices slice.value)

pub returns-then-total-gt-MOST_CHOICES-clause-one : goal.returns-then-total-gt-MOST_CHOICES-clause-one
returns-then-total-gt-MOST_CHOICES-clause-one c = one_listed_choice _ c.args.self.now.proper

pub returns-then-total-gt-MOST_CHOICES-clause-number : goal.returns-then-total-gt-MOST_CHOICES-clause-number
returns-then-total-gt-MOST_CHOICES-clause-number c = choices_times_period _

pub loop-period-preserved : goal.loop-period-preserved
loop-period-preserved c =
    let slice = c.as_slice-period-items.ensures in
    let more = radices_more _ _ _ _ _ _ _ _ c.loop-period-test.true slice.proper c.loop-period.invariant.0
    c.from-period.ensures c.gcd-shared.ensures.value c.lcm-common.ensures in
    let pushed : items_of c.push.new.self ≡ items_of c.loop-period.radices ++ c.gcd-shared.result ∷ [] = search rules in
    (rw pushed more, omega arith)

pub returns-clause-one : goal.returns-clause-one
returns-clause-one c = one_listed_choice _ c.args.self.now.proper

pub returns-clause-number : goal.returns-clause-number
returns-clause-number c = choices_times_period _
