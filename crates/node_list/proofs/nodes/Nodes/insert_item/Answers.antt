use Rattle.std.proofs.Common.{◌+◌, ◌*◌, Some, map, sym, ◌∙◌, ap, subst, arith}
use Rattle.slab.specs.Slab.{Slab, get, slab_len, HasRoomFor, Updates}
use Rattle.node_list.specs.declared.node.ListNode.{ListNode}
use Rattle.node_list.specs.inside.FreeList.{item_node}
use Rattle.node_list.specs.inside.Woven.{stored_dummy, woven}
use Rattle.node_list.proofs.WeaveLaws.{get-odd, woven-updates}
use Rattle.node_list.proofs.NodeLaws.{len-woven, room-woven}
use Rattle.node_list.proofs.nodes.Nodes.insert_item.Goals as goal

pub insert_reserved-requires-clause-room : goal.insert_reserved-requires-clause-room
insert_reserved-requires-clause-room c =
    let P : Slab ListNode → Type 0 = λ v. HasRoomFor v 1 in
    room-woven c.self.inside.dummies.items c.self.inside.items 1 (subst P (sym c.self.view_is) c.requires.room)

pub returns-clause-was_vacant : goal.returns-clause-was_vacant
returns-clause-was_vacant c =
    sym (ap (λ (v : Slab ListNode). get v (2 * c.insert_reserved.result + 1)) c.self.view_is)
    ∙ (get-odd (map stored_dummy c.self.inside.dummies.items) c.self.inside.items.slots c.insert_reserved.result ∙ c.insert_reserved.ensures.was_vacant)

pub returns-clause-updates : goal.returns-clause-updates
returns-clause-updates c =
    let V : Slab ListNode → Type 0 = λ v. Updates v (woven c.self.inside.dummies.items c.insert_reserved.new.self) (2 * c.insert_reserved.result + 1) (Some (item_node c.args.reversed c.args.next c.args.item)) in
    subst V c.self.view_is (woven-updates c.self.inside.dummies.items c.self.inside.items c.insert_reserved.new.self c.insert_reserved.result (Some (item_node c.args.reversed c.args.next c.args.item)) c.insert_reserved.ensures.updates)

pub returns-clause-len : goal.returns-clause-len
returns-clause-len c =
    omega (
      arith,
      len-woven c.self.inside.dummies.items c.insert_reserved.new.self,
      len-woven c.self.inside.dummies.items c.self.inside.items,
      c.insert_reserved.ensures.len,
      ap (λ (v : Slab ListNode). slab_len v) c.self.view_is,
    )
