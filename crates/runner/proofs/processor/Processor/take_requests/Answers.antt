use Rattle.std.proofs.Common.{◌≡◌, ◌∙◌, map, refl, rules, subst, sym}
use Rattle.std.specs.List.{All}
use Rattle.short_list.specs.Items.{items_of}
use Rattle.runner.specs.Levels.{Kept, requested_at}
use Rattle.runner.proofs.Steps.{map_from_zip, all_kept}
use Rattle.runner.proofs.processor.Processor.take_requests.Goals as goal
use Rattle.runner.proofs.processor.Processor.take_requests.Goals.{After-update_some}

levels : (c : After-update_some) → items_of c.update_some.new.self ≡ map (requested_at c.args.self.now.tick) (items_of c.args.self.now.levels)
levels c = map_from_zip _ (requested_at c.args.self.now.tick) (λ x y post. post.2 ∙ search rules) _ _ c.update_some.ensures

pub invariant_of-self-clause-kept : goal.invariant_of-self-clause-kept
invariant_of-self-clause-kept c =
    subst (All (Kept c.args.self.now.tick)) (sym (levels ((goal.at.invariant_of-self-clause-kept c).After-update_some))) (all_kept c.args.self.now.tick _ c.args.self.now.bounded c.args.self.now.kept)

pub returns : goal.returns
returns c = record { tick = refl; levels = levels ((goal.at.returns c).After-update_some) }
