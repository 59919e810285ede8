use Rattle.lateness.specs.Below.{Responds}
use Rattle.sheets.proofs.Soundness.{sound_from_test}
use Rattle.book.specs.Finding.{plan_of}
use Rattle.book.proofs.Responses.{of_judged, responds_some, responds_worst}
use Rattle.book.proofs.standing.task.PlannedTask.response.Goals as goal
use Rattle.book.proofs.standing.task.PlannedTask.response.Goals.{After-worst_response}

responds : (c : After-worst_response) → Responds c.case.result c.args.self.now.place c.above.result c.worst_response.result
responds c =
    of_judged c.judged.result c.case.result c.args.self.now.place c.above.result c.judged.ensures.case c.judged.ensures.place
    c.judged.ensures.above (λ case place above. Responds case place above c.worst_response.result) c.worst_response.ensures.value

pub unwrap-requires : goal.unwrap-requires
unwrap-requires c =
    let task = c.args.self.now in
    responds_some (plan_of task) task.place c.case.result c.case.ensures c.above.result c.above.ensures task.held
    (sound_from_test _ task.plan.now.sheet.sound).different task.plan.now.in_time c.worst_response.result (responds c)

pub returns : goal.returns
returns c =
    let task = c.args.self.now in
    responds_worst (plan_of task) task.place c.case.result c.case.ensures c.above.result c.above.ensures task.held
    (sound_from_test _ task.plan.now.sheet.sound).different c.worst_response.result c.unwrap.result c.unwrap.ensures
    (responds (goal.at.returns c).After-worst_response)
