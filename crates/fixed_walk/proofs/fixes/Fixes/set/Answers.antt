use Rattle.std.proofs.Common.{ap, ◌∙◌}
use Rattle.std.specs.FinMap as map
use Rattle.fixed_walk.proofs.CountLaws.{inserted, inserted-counted, with_some}
use Rattle.fixed_walk.proofs.fixes.Fixes.set.Goals as goal

pub returns-clause-ok : goal.returns-clause-ok
returns-clause-ok c =
    inserted c.self.inside.counts.entries c.insert.new.self.entries c.args.pid c.args.count (λ q. c.in_ok-insert.ensures.updates.0 q)
    ∙ ap (λ m. map.insert m c.args.pid c.args.count) c.self.view_is
    ∙ with_some c.args.self.now c.args.pid c.args.count c.requires

pub invariant_of-self-2 : goal.invariant_of-self-2
invariant_of-self-2 c = inserted-counted c.self.inside.counts.entries c.insert.new.self.entries c.args.pid c.args.count c.requires c.self.invariant (λ q. c.in_ok-insert.ensures.updates.0 q)
