use Rattle.std.proofs.Common.{◌≡◌, [], ◌∷◌, ◌++◌, arith, rules}
use Rattle.std.proofs.lemmas.List.{take_rest, length-drop}
use Rattle.short_list.specs.Items.{items_of}
use Rattle.sheets.specs.Bytes.{row_in}
use Rattle.sheets.proofs.Bytes.{read_more, rows_left}
use Rattle.sheets.proofs.sheet.read.read_rows.Goals as goal

-- the rows made and at least one to come are no more than the list takes
pub unwrap-requires : goal.unwrap-requires
unwrap-requires c =
    c.push.ensures.room.1
    (omega (arith, c.requires.few, c.in-len7-up.len_at_least, rows_left _ _ _ _ _ _ _ c.loop-tasks.invariant.1))

pub loop-tasks-preserved : goal.loop-tasks-preserved
loop-tasks-preserved c =
    let tasks = c.loop-tasks.tasks.now in
    let plans = c.loop-tasks.plans.now in
    let next : items_of c.push.new.self ≡ items_of c.loop-tasks.rows ++ row_in tasks plans ∷ [] = search rules in
    rw (take_rest tasks 7, take_rest plans 3) (
      omega (arith, length-drop 7 tasks, length-drop 3 plans),
      read_more _ _ tasks plans _ c.in-len7-up.len_at_least next c.loop-tasks.invariant.1,
    )
