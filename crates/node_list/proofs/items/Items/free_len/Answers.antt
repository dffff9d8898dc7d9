use Rattle.std.proofs.Common.{arith}
use Rattle.node_list.proofs.FreePlaceLaws.{slab_len-at_most}
use Rattle.node_list.proofs.items.Items.free_len.Goals as goal

pub overflow_add-result : goal.overflow_add-result
overflow_add-result c =
    omega (arith, c.len.ensures, slab_len-at_most c.self.inside.nodes c.self.inside.end c.self.invariant.within, c.self.invariant.few)
