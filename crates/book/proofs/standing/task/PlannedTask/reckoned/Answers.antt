use Rattle.judges.specs.Meaning.{Tells, tasks_of, starts_of}
use Rattle.tasks.specs.Places.{has}
use Rattle.book.specs.Finding.{plan_of}
use Rattle.book.proofs.Responses.{of_judged, of_rows}
use Rattle.book.proofs.standing.task.PlannedTask.reckoned.Goals as goal

pub returns : goal.returns
returns g c =
    let task = c.args.self.now in
    let M = g.J.Judge.meaning c.args.judge.now in
    let N = g.J.MeasuringJudge.reckons c.args.judge.now in
    of_rows (plan_of task) task.place c.case.result c.case.ensures c.above.result c.above.ensures
    (λ tasks starts set. Tells c.response.result (M tasks starts task.place set) (N tasks starts task.place set))
    (of_judged c.judged.result c.case.result task.place c.above.result c.judged.ensures.case c.judged.ensures.place c.judged.ensures.above
    (λ case place above.
    Tells c.response.result (M (tasks_of case) (starts_of case) place (has above)) (N (tasks_of case) (starts_of case) place (has above)))
    c.response.ensures)
