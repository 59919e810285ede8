use Rattle.std.proofs.Common.{◌≡◌, ◌+◌, ◌<◌, ◌≤◌, rules, sym, subst}
use Rattle.std.specs.Option.{option_map}
use Rattle.std.proofs.lemmas.Iterator.{IsFirst-from_position, YieldsList-from_slice}
use Rattle.entries.specs.Ticks.{FirstAtOrAfter}
use Rattle.entries.proofs.Ticks.{placed}
use Rattle.entries.proofs.first_at_or_after.Goals as goal

pub returns : goal.returns
returns g c =
    let when = g.E.Ticked.when in
    let entries = c.args.entries.now in
    let tick = c.args.tick in
    let place : c.map.result ≡ option_map (λ i. i + 1) c.position.result = search rules in
    subst (FirstAtOrAfter _ tick) (sym place)
    (placed when entries tick c.position.result
    (IsFirst-from_position _ _ c.position.result (λ e. tick ≤ when e) (λ e. when e < tick) c.position.ensures.ran (YieldsList-from_slice entries cc)
    (λ x q k. search rules) (λ x q k. search rules)))
