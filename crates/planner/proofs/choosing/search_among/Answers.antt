use Rattle.std.proofs.Common.{◌≡◌, ◌≤◌, sym, ap, ◌∙◌, arith, below_more, rules}
use Rattle.periods.specs.Listed.{number_of_choices, start_of}
use Rattle.periods.specs.Lists.{listed_periods}
use Rattle.periods.proofs.Starts.{one_listed_choice}
use Rattle.tasks.specs.Cases.{timed_of}
use Rattle.tasks.specs.Tables.{rows_of, figures_in, periods_held}
use Rattle.tasks.proofs.Ordered.{fair_from_tidy, few_rows}
use Rattle.planner.specs.Plans.{timed}
use Rattle.planner.proofs.Fairness.{table_fair}
use Rattle.planner.proofs.Rows.{choice_forms, proper_periods}
use Rattle.planner.proofs.Starts.{rank_listed, no_plan, choice_refused, choice_planned}
use Rattle.planner.proofs.choosing.search_among.Goals as goal

-- the choice of a rank always forms a case
pub unwrap-case-requires : goal.unwrap-case-requires
unwrap-case-requires g c =
    let table = c.args.table.now in
    let (below, chosen) = rank_listed _ _ c.loop-rank.rank c.requires.1 c.unwrap-starts.result (sym c.unwrap-starts.ensures ∙ c.starts.ensures.value) in
    let none = choice_forms (rows_of table) c.loop-rank.rank (few_rows table) (fair_from_tidy 1 (rows_of table) table.tidy)
    c.requires.0 below c.unwrap-starts.result chosen in
    search rules

pub loop-rank-preserved : goal.loop-rank-preserved
loop-rank-preserved g c =
    let judge = c.args.judge.now in
    let table = c.args.table.now in
    let (below, chosen) = rank_listed _ _ c.loop-rank.rank c.requires.1 c.unwrap-starts.result (sym c.unwrap-starts.ensures ∙ c.starts.ensures.value) in
    let formed : timed_of c.unwrap-case.result ≡ timed (rows_of table) (start_of c.unwrap-starts.result) = search rules in
    below_more _ _ c.loop-rank.invariant
    (choice_refused (g.J.Judge.meaning judge) (g.met.J.Judge.lawful judge) (rows_of table) (table_fair table) c.loop-rank.rank
    c.unwrap-starts.result chosen c.unwrap-case.result formed
    c.in_default.ensures)

pub returns-in-Some : goal.returns-in-Some
returns-in-Some g c =
    let judge = c.args.judge.now in
    let table = c.args.table.now in
    let (below, chosen) = rank_listed _ _ c.loop-rank.rank c.requires.1 c.unwrap-starts.result (sym c.unwrap-starts.ensures ∙ c.starts.ensures.value) in
    let formed : timed_of c.unwrap-case.result ≡ timed (rows_of table) (start_of c.unwrap-starts.result) = search rules in
    choice_planned (g.J.Judge.meaning judge) (g.met.J.Judge.lawful judge) (rows_of table) (table_fair table) c.loop-rank.rank
    c.unwrap-starts.result chosen c.unwrap-case.result formed below
    c.in-Some.order c.new.result c.new.ensures c.in-Some.ensures

pub returns : goal.returns
returns g c =
    let judge = c.args.judge.now in
    let table = c.args.table.now in
    let all : number_of_choices (listed_periods c.args.choices.now) ≤ c.loop-rank.rank = search rules in
    no_plan (g.J.Judge.meaning judge) (g.met.J.Judge.lawful judge) (figures_in table) (table_fair table) c.loop-rank.rank
    (one_listed_choice (periods_held table) (proper_periods (figures_in table) (table_fair table)))
    (omega (arith, ap number_of_choices c.requires.1))
    c.loop-rank.invariant
