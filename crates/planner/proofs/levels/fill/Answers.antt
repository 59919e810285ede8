use Rattle.std.proofs.Common.{ℕ, ◌-◌, sym, subst, inl, inr, arith, rules}
use Rattle.std.proofs.lemmas.Bool.{cases_eq}
use Rattle.judges.specs.Meaning.{tasks_of, starts_of}
use Rattle.planner.specs.Filling.{PassesAt}
use Rattle.planner.proofs.Fairness.{case_fair}
use Rattle.planner.proofs.Filling.{fill_kept, fill_refused, none_passes}
use Rattle.planner.proofs.levels.fill.Goals as goal

pub returns-then-passes : goal.returns-then-passes
returns-then-passes g c =
    let judge = c.args.judge.now in
    let case = c.args.case.now in
    let opened = c.open-trial.ensures in
    let after = c.open-trial.result.order.now in
    let At : ℕ → Type 0 = PassesAt (g.J.Judge.meaning judge) case after in
    fill_kept (g.J.Judge.meaning judge) (g.met.J.Judge.lawful judge) case c.unwrap-tried.result
    c.args.position c.args.order.now c.loop-place.order after c.loop-place.invariant.0 c.requires.later.count c.requires.inside
    c.if-tried-position.true opened.exchanged _ (search rules) c.requires.later
    (subst At opened.positions.1 c.if-passes.ensures)

pub loop-place-preserved-then-tried-position : goal.loop-place-preserved-then-tried-position
loop-place-preserved-then-tried-position g c =
    let judge = c.args.judge.now in
    let case = c.args.case.now in
    let opened = c.open-trial.ensures in
    let after = c.open-trial.result.order.now in
    let place = c.loop-place.place - 1 in
    let At : ℕ → Type 0 = PassesAt (g.J.Judge.meaning judge) case after in (
      search rules,
      λ p from held left.
          elim (cases_eq p place) [
            | inl is ↦
                fill_refused (g.J.Judge.meaning judge) (g.met.J.Judge.lawful judge) case c.unwrap-tried.result
                c.args.position c.args.order.now c.loop-place.order after c.loop-place.invariant.0 c.requires.later.count c.requires.inside
                c.if-tried-position.true opened.exchanged p held (search rules)
                (λ ruling. c.if-passes.ensures (subst At (sym opened.positions.1) ruling))
            | inr not ↦ c.loop-place.invariant.1 p (omega arith) held left
          ],
    )

pub returns : goal.returns
returns g c =
    let judge = c.args.judge.now in
    let case = c.args.case.now in
    none_passes (g.J.Judge.meaning judge) (g.met.J.Judge.lawful judge) (tasks_of case) (case_fair case) (starts_of case)
    c.args.order.now c.args.position c.requires.later.count c.requires.inside
    (λ place held left. c.loop-place.invariant.1 place (omega arith) held left)
