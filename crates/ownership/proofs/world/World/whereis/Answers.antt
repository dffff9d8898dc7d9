use Rattle.std.proofs.Common.{ap, ◌∙◌}
use Rattle.ownership.specs.World.{World, whereis}
use Rattle.ownership.proofs.world.World.whereis.Goals as goal

pub returns : goal.returns
returns g c = c.find.ensures c.self.inside.tables.items c.self.invariant ∙ ap (λ (v : World). whereis v.tables c.args.name.now) c.self.view_is
