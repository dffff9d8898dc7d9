use Rattle.std.proofs.Common.{sym, subst}
use Rattle.ownership.specs.World.{Tables}
use Rattle.ownership.specs.inside.Indices.{IndicesInvariant}
use Rattle.ownership.proofs.Keeping.{kept-adds, kept-passed}
use Rattle.ownership.proofs.world.World.transfer.Goals as goal

pub invariant_of-self : goal.invariant_of-self
invariant_of-self g c = kept-adds c.self.inside.indices c.self.inside.tables.items c.self.invariant c.index_owner.new.self c.index_owner.ensures.owners

pub invariant_of-self-in_err-push_message : goal.invariant_of-self-in_err-push_message
invariant_of-self-in_err-push_message g c = kept-adds c.self.inside.indices c.self.inside.tables.items c.self.invariant c.index_owner.new.self c.index_owner.ensures.owners

pub invariant_of-self-2 : goal.invariant_of-self-2
invariant_of-self-2 g c =
    let items = c.self.inside.tables.items in
    let after = c.index_owner.new.self in
    let kept = kept-adds c.self.inside.indices items c.self.invariant after c.index_owner.ensures.owners in
    subst (λ (ts : Tables). IndicesInvariant after ts) (sym c.set_owner_at.ensures) (kept-passed after items kept c.args.id c.args.owner c.in_default.ensures.ok)
