use Rattle.std.proofs.Common.{◌≡◌, ℕ, Ok, Err, Result, subst, rules}
use Rattle.std.specs.Option.{ok_or}
use Rattle.std.specs.Result.{result_err}
use Rattle.refusals.specs.Answers.{AnswersWith}
use Rattle.refusals.specs.declared.Refusal.{Refusal}
use Rattle.refusals.specs.declared.Refusal.TheVariants.{StandingId}
use Rattle.tasks.specs.Rows.{standing_refusal}
use Rattle.tasks.specs.Seeking.{BelongsAt, Sought}
use Rattle.tasks.specs.Tables.{rows_of}
use Rattle.tasks.proofs.Found.{standing, free}
use Rattle.tasks.proofs.table.Table.find_gap.Goals as goal
use Rattle.tasks.proofs.table.Table.find_gap.Goals.{After-ok_or}

-- where the id belongs is the answer, and that it stands the refusal
turned :
    (c : After-ok_or) (r : Result ℕ ℕ) → Sought c.args.id (rows_of c.args.self.now) r →
    AnswersWith (standing_refusal c.args.id (rows_of c.args.self.now)) (BelongsAt c.args.id (rows_of c.args.self.now))
    (ok_or (result_err r) StandingId)
turned c (Ok at) found = standing _ _ _ found c.in_ok-seek.ensures.0
turned c (Err at) found = (free _ _ _ found c.in_ok-seek.ensures.0, found)

pub returns : goal.returns
returns c =
    let Answered : Result ℕ Refusal → Type 0 =
    AnswersWith (standing_refusal c.args.id (rows_of c.args.self.now)) (BelongsAt c.args.id (rows_of c.args.self.now)) in
    let is : ok_or (result_err c.in_ok-seek.field-0) StandingId ≡ c.ok_or.result = search rules in
    subst Answered is (turned c c.in_ok-seek.field-0 c.in_ok-seek.ensures.1)
