use Rattle.std.proofs.Common.{◌≡◌, ◌≤◌, false, length, None, sym, ap, ◌∙◌, subst, arith, rules, tests}
use Rattle.std.proofs.lemmas.Iterator.{YieldsList-from_slice}
use Rattle.std.proofs.lemmas.Iterator.Search.{any_from_yields_List}
use Rattle.std.specs.List.{list_any}
use Rattle.periods.specs.Multiples.{most_tasks}
use Rattle.periods.specs.Rows.{periods_of}
use Rattle.short_list.specs.Items.{items_of}
use Rattle.tasks.specs.Loads.{periods_in}
use Rattle.tasks.specs.Timed.{Sound, starts_late, figures_given, case_refusal}
use Rattle.tasks.proofs.Lists.{few_items}
use Rattle.tasks.proofs.Loads.{answered}
use Rattle.tasks.proofs.Timely.{all_timely, decides_timely, fair_from_no_fault, no_refusal, sound_from_none, none_from_sound}
use Rattle.tasks.proofs.case.Case.form.Goals as goal
use Rattle.tasks.proofs.case.Case.form.Goals.{Else-any}

pub returns-in-Some-clause-sound : goal.returns-in-Some-clause-sound
returns-in-Some-clause-sound c = (sound_from_none _, none_from_sound _)

pub unwrap-requires : goal.unwrap-requires
unwrap-requires c =
    let listed : items_of c.in_ok-list.list ≡ c.args.rows.now = search rules in
    c.periods_of.ensures.fair (omega (arith, few_items c.in_ok-list.list, ap length listed))
    (fair_from_no_fault _ (sym c.first_fault.ensures ∙ c.in_default.is))

-- the rows are listed, and nothing refuses them
formed : (c : Else-any) → (items_of c.in_ok-list.list ≡ c.args.rows.now) × (case_refusal c.args.rows.now ≡ None)
formed c =
    let rows = c.args.rows.now in
    let listed : items_of c.in_ok-list.list ≡ rows = search rules in
    let held : periods_of c.unwrap.result ≡ periods_in (figures_given rows) = search rules in
    let late : list_any starts_late rows ≡ false =
    sym (any_from_yields_List starts_late _ _ c.any.result c.any.ensures.ran (YieldsList-from_slice rows c.iter.ensures.rest) (λ x b q k. search (rules, tests))) ∙ c.if-any.false in
    let few : length rows ≤ most_tasks = omega (arith, few_items c.in_ok-list.list, ap length listed) in (
      listed,
      no_refusal rows (sym c.first_fault.ensures ∙ c.in_default.is) few (rw held at (answered (periods_of c.unwrap.result) _ c.in_ok-common_period.ensures.value).0) late,
    )

pub invariant_of-result : goal.invariant_of-result
invariant_of-result c =
    let (listed, none) = formed c in
    let sound = subst Sound (sym listed) (sound_from_none _ none) in
    record {
      some = sound.some;
      timely = (decides_timely _).1 (all_timely _ sound.fair sound.timely);
      short = sound.short;
    }

pub returns-clause-value : goal.returns-clause-value
returns-clause-value c = let (listed, none) = formed (goal.at.returns-clause-value c).Else-any in (none, listed)

pub returns-clause-sound : goal.returns-clause-sound
returns-clause-sound c = (sound_from_none _, none_from_sound _)
