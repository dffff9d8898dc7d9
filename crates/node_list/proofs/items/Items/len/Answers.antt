use Rattle.std.proofs.Common.{arith}
use Rattle.node_list.proofs.FreePlaceLaws.{slab_len-at_most}
use Rattle.node_list.proofs.items.Items.len.Goals as goal

pub returns-clause-few : goal.returns-clause-few
returns-clause-few c =
    omega (arith, c.self.invariant.free_list.count, slab_len-at_most c.self.inside.nodes c.self.inside.end c.self.invariant.within, c.self.invariant.few)
