use Rattle.std.proofs.Common.{sym, subst}
use Rattle.ownership.specs.World.{Tables}
use Rattle.ownership.specs.inside.Indices.{IndicesInvariant}
use Rattle.ownership.proofs.world.World.new.Goals as goal

pub invariant_of-result : goal.invariant_of-result
invariant_of-result g c = subst (λ (ts : Tables). IndicesInvariant c.new-3.result ts) (sym c.new-2.ensures.items) c.new-3.ensures
