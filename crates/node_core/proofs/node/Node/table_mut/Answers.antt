use Rattle.std.proofs.Common.{inr}
use Rattle.ownership.specs.World.{table_at}
use Rattle.ownership.specs.inside.States.{table_with_state}
use Rattle.node_core.proofs.pending.Index.{set-tracked}
use Rattle.node_core.proofs.node.Node.table_mut.Goals as goal

pub invariant_of-self-lent : goal.invariant_of-self-lent
invariant_of-self-lent g c =
    let tables = c.self.inside.world.tables in
    let pending = c.mark_dirty.new.pending in
    let is = c.mark_dirty.ensures.pending in
    λ _. (λ w. set-tracked tables pending c.args.id (table_with_state (table_at tables c.args.id) w) is (inr c.mark_dirty.ensures.dirty), is)
