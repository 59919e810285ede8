use Rattle.std.proofs.Common.{rules}
use Rattle.tasks.proofs.Placed.{few_tasks}
use Rattle.timeline.proofs.Laws.{repeats_law}
use Rattle.lateness.proofs.Ranked.{known_level, told_runs}
use Rattle.lateness.proofs.order.runs_at.Goals as goal

pub returns-in_err-processor-clause-repeats : goal.returns-in_err-processor-clause-repeats
returns-in_err-processor-clause-repeats c = repeats_law

pub returns-in_err-runs-clause-repeats : goal.returns-in_err-runs-clause-repeats
returns-in_err-runs-clause-repeats c = repeats_law

pub and_then-requires : goal.and_then-requires
and_then-requires c =
    λ level is.
    let case = c.args.case.now in
    let on = c.in_ok-processor.ensures in
    let known = known_level case c.args.levels.now c.args.tick c.in_ok-processor.processor on level (search rules) in
    let few = few_tasks case in
    search rules

pub returns : goal.returns
returns c =
    record {
      value =
          told_runs c.args.case.now c.args.levels.now c.args.tick c.in_ok-processor.processor c.in_ok-processor.ensures _ c.in_ok-runs.runs
          c.and_then.result c.in_ok-runs.ensures c.and_then.ensures (λ level post. search rules);
      repeats = repeats_law;
    }
