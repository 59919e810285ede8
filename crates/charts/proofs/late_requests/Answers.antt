use Rattle.charts.proofs.Dues.{all_ahead}
use Rattle.charts.proofs.Ordered.{one_order}
use Rattle.charts.proofs.Filling.{told_as}
use Rattle.charts.proofs.late_requests.Goals as goal

pub returns : goal.returns
returns c =
    let of = c.of.ensures in
    record {
      listed = told_as _ _ (all_ahead c.of.result _ of.sheet of.tick of.place) _ _ _ c.fill.ensures;
      one = one_order _;
    }
