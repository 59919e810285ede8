use Rattle.std.proofs.Common.{◌≡◌, ◌<◌, ◌≤◌, ◌^◌, ℕ, map, length, get_or, Ok, sym, ap, ◌∙◌, ap₂, arith, rules}
use Rattle.std.specs.List.{sum_by}
use Rattle.std.proofs.ByRecursion.{All-get_or}
use Rattle.std.proofs.iter.Serving.{serving}
use Rattle.periods.specs.Multiples.{longest_common_period}
use Rattle.tasks.specs.Figures.{Fair}
use Rattle.tasks.specs.Loads.{load_in}
use Rattle.tasks.specs.Tables.{periods_held}
use Rattle.tasks.specs.declared.rows.Row.{Row}
use Rattle.tasks.proofs.Loads.{work_of, load_is_sum, load_bound, answered}
use Rattle.tasks.proofs.table.Table.load.Goals as goal

pub sum-load-requires-clause-can : goal.sum-load-requires-clause-can
sum-load-requires-clause-can c =
    let rows = c.rows.result.now in
    let fair : (k : ℕ) (d : Row) → k < length rows → Fair (get_or rows k d).figures =
    λ k d inside. All-get_or (λ row. Fair row.figures) rows k d inside c.rows.ensures.fair in
    let short : c.in_ok-common.common ≤ longest_common_period = (answered (periods_held c.args.self.now) _ c.in_ok-common.ensures.value).2 in
    grind serving

pub sum-load-requires-clause-fits : goal.sum-load-requires-clause-fits
sum-load-requires-clause-fits c =
    let rows = c.rows.result.now in
    let common = answered (periods_held c.args.self.now) _ c.in_ok-common.ensures.value in
    let fits : sum_by (work_of (λ row. row.figures) c.in_ok-common.common) rows < 2 ^ 32 =
    omega (arith, load_bound (λ row. row.figures) _ rows common.2 c.rows.ensures.fair, c.rows.ensures.few) in
    search rules

pub returns : goal.returns
returns c =
    let rows = c.rows in
    let common = answered (periods_held c.args.self.now) _ c.in_ok-common.ensures.value in
    let sum : c.sum-load.result ≡ sum_by (work_of (λ row. row.figures) c.in_ok-common.common) rows.result.now = search rules in
    rw common.0
    (ap Ok (sum ∙ sym (load_is_sum (λ row. row.figures) _ rows.result.now) ∙ ap₂ (λ ticks all. load_in ticks (map (λ row. row.figures) all)) common.1 rows.ensures.value))
