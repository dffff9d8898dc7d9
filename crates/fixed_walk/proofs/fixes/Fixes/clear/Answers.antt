use Rattle.std.proofs.Common.{ap, ◌∙◌}
use Rattle.std.specs.FinMap as map
use Rattle.fixed_walk.proofs.CountLaws.{removed, removed-counted}
use Rattle.fixed_walk.proofs.fixes.Fixes.clear.Goals as goal

pub returns : goal.returns
returns c =
    removed c.self.inside.counts.entries c.swap_remove.new.self.entries c.args.pid (λ q. c.swap_remove.ensures.updates.0 q)
    ∙ ap (λ m. map.remove m c.args.pid) c.self.view_is

pub invariant_of-self : goal.invariant_of-self
invariant_of-self c = removed-counted c.self.inside.counts.entries c.swap_remove.new.self.entries c.args.pid c.self.invariant (λ q. c.swap_remove.ensures.updates.0 q)
