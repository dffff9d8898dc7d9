use Rattle.std.proofs.Common.{ap, arith}
use Rattle.slab.specs.Slab.{Slab, slab_len}
use Rattle.node_list.specs.declared.node.ListNode.{ListNode}
use Rattle.node_list.proofs.NodeLaws.{len-woven}
use Rattle.node_list.proofs.nodes.Nodes.len.Goals as goal

pub returns-clause-value : goal.returns-clause-value
returns-clause-value c =
    omega (arith, c.len.ensures, c.len-2.ensures.value, c.self.inside.dummies.ok.0, len-woven c.self.inside.dummies.items c.self.inside.items, ap (λ (v : Slab ListNode). slab_len v) c.self.view_is)
