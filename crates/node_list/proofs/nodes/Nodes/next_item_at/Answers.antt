use Rattle.std.proofs.Common.{◌+◌, ◌*◌, Some, None, subst}
use Rattle.slab.specs.Slab.{Slab}
use Rattle.node_list.specs.declared.node.ListNode.{ListNode}
use Rattle.node_list.specs.inside.Slots.{IsNextItemIn}
use Rattle.node_list.proofs.NodeLaws.{next-item}
use Rattle.node_list.proofs.nodes.Nodes.next_item_at.Goals as goal

pub returns-in-Some : goal.returns-in-Some
returns-in-Some c =
    let P : Slab ListNode → Type 0 = λ v. IsNextItemIn c.args.start (Some (2 * c.in-Some.at + 1)) v in
    subst P c.self.view_is (next-item c.self.inside.dummies.items c.self.inside.items c.args.start (Some c.in-Some.at) c.in-Some.ensures)

pub returns-in-None : goal.returns-in-None
returns-in-None c =
    let P : Slab ListNode → Type 0 = λ v. IsNextItemIn c.args.start None v in
    subst P c.self.view_is (next-item c.self.inside.dummies.items c.self.inside.items c.args.start None c.in-None.ensures)
