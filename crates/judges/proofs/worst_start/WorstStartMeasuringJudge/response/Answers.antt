use Rattle.std.proofs.Common.{◌≡◌, ◌<◌, length, sym, ap, ◌∙◌, arith}
use Rattle.std.proofs.lemmas.Bool.{ltb-true}
use Rattle.tasks.specs.Places.{has}
use Rattle.tasks.specs.Timed.{figures_given}
use Rattle.tasks.proofs.Placed.{fair_task}
use Rattle.timeline.specs.Timeline.{task_at}
use Rattle.judges.specs.Meaning.{tasks_of, starts_of}
use Rattle.judges.proofs.Rows.{blank, task_of_row, length_rows}
use Rattle.judges.proofs.WorstStartRuns.{rising_more, settled_in_time, none_in_time}
use Rattle.judges.proofs.worst_start.WorstStartMeasuringJudge.response.Goals.{In_ok-figures}
use Rattle.judges.proofs.worst_start.WorstStartMeasuringJudge.response.Goals as goal

-- the judged place holds a task, whose row was got
placed : (c : goal.In_ok-figures) → c.args.judged.place < length (tasks_of c.args.judged.case.now)
placed c =
    omega (
      arith,
      ltb-true c.args.judged.place (length c.rows.result.now) (sym c.in_ok-figures.ensures.lookup.0),
      length_rows c.rows.result.now _ (ap figures_given c.rows.ensures.value),
    )

got : (c : goal.In_ok-figures) → task_at (tasks_of c.args.judged.case.now) c.args.judged.place ≡ c.in_ok-figures.field-0.now.figures
got c =
    let place = c.args.judged.place in
    sym (ap (λ rows. task_at (figures_given rows) place) c.rows.ensures.value)
    ∙ task_of_row c.rows.result.now place (ltb-true place (length c.rows.result.now) (sym c.in_ok-figures.ensures.lookup.0))
    ∙ sym (ap (λ row. row.figures) (c.in_ok-figures.ensures.lookup.4 (omega arith) blank))

pub returns-then-work-ticks : goal.returns-then-work-ticks
returns-then-work-ticks c =
    let in_ok = (goal.at.returns-then-work-ticks c).In_ok-figures in
    settled_in_time (tasks_of c.args.judged.case.now) c.args.judged.place (has c.args.judged.above.now) c.loop-ticks.ticks
    (starts_of c.args.judged.case.now) c.loop-ticks.invariant _ (placed in_ok) c.work_in-work.ensures c.if-work-ticks.true
    (omega (arith, c.loop-ticks-test.true, c.from-deadline.ensures, ap (λ task. task.deadline) (got in_ok)))

pub loop-ticks-preserved : goal.loop-ticks-preserved
loop-ticks-preserved c =
    rising_more (tasks_of c.args.judged.case.now) c.args.judged.place (has c.args.judged.above.now) c.loop-ticks.ticks _
    (λ q inside. fair_task c.args.judged.case.now q inside _) c.work_in-work.ensures c.loop-ticks.invariant

pub returns : goal.returns
returns c =
    let in_ok = (goal.at.returns c).In_ok-figures in
    none_in_time (tasks_of c.args.judged.case.now) c.args.judged.place (has c.args.judged.above.now) c.loop-ticks.ticks
    (starts_of c.args.judged.case.now) c.loop-ticks.invariant
    (omega (arith, c.loop-ticks-test.false, c.from-deadline.ensures, ap (λ task. task.deadline) (got in_ok)))
