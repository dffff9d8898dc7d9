use Rattle.node_core.proofs.pending.Due.{due-empty}
use Rattle.node_core.proofs.node.Node.is_idle.Goals as goal

pub returns : goal.returns
returns g c h =
    let tables = c.self.inside.world.tables in
    let index = c.self.inside.pending in
    rw (← c.self.view_is) (due-empty tables index c.self.invariant.due (c.is_empty.ensures.queue h) (c.is_empty.ensures.dirty h))
