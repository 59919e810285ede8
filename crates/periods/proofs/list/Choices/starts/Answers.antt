use Rattle.std.proofs.Common.{◌≡◌, ◌/◌, ◌<◌, ap, ◌∙◌, refl, arith, rules}
use Rattle.std.proofs.lemmas.Bool.Decides.{nat_tests}
use Rattle.periods.specs.Lists.{in_places, listed_periods}
use Rattle.periods.specs.Listed.{digits, choice_of}
use Rattle.periods.proofs.Places.{digits_weight, digits_more, digits_all}
use Rattle.periods.proofs.Ranks.{ranks_list_the_choices}
use Rattle.periods.proofs.list.Choices.starts.Goals as goal
use Rattle.periods.proofs.list.Choices.starts.Goals.{After-from-weight}

pub returns-then-rank-self-clause-ranks : goal.returns-then-rank-self-clause-ranks
returns-then-rank-self-clause-ranks c = ranks_list_the_choices _

-- neither the radix nor the weight of this place is 0, and its start is below the radix
place :
    (c : After-from-weight) →
    (0 < c.from-weight.result) × (0 < c.loop-place.weight / c.from-weight.result)
    × (c.loop-place.rest / (c.loop-place.weight / c.from-weight.result) < c.from-weight.result)
place c =
    let all = digits_weight _ _ _ _ _ _ _ _ c.loop-place-test.true c.loop-place.invariant c.from-weight.ensures refl in
    (all.0, all.1, all.3)

pub overflow_cast-starts : goal.overflow_cast-starts
overflow_cast-starts c = let h = place (goal.at.overflow_cast-starts c).After-from-weight in search rules

pub loop-place-preserved : goal.loop-place-preserved
loop-place-preserved c =
    digits_more _ _ _ _ _ _ _ _ c.loop-place-test.true (omega (arith, c.deref-radix-items.ensures))
    c.loop-place.invariant c.from-weight.ensures refl

pub returns-clause-ranks : goal.returns-clause-ranks
returns-clause-ranks c = ranks_list_the_choices _

pub returns-clause-value : goal.returns-clause-value
returns-clause-value c =
    let choices = c.args.self.now in
    let radices-are = c.deref-radix-items.ensures.0 ∙ choices.exact in
    let is : c.loop-place.starts ≡ in_places (choice_of (listed_periods choices) c.args.rank) =
    digits_all _ _ _ _ _ _ (omega arith) c.loop-place.invariant ∙ ap (λ gs. in_places (digits gs c.args.rank)) radices-are in
    grind (arith, nat_tests, is, choices.counted)
