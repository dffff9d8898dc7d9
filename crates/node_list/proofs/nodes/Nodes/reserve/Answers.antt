use Rattle.std.proofs.Common.{sym, ◌∙◌, ap, subst, arith}
use Rattle.slab.specs.Slab.{Slab, get, slab_len, HasRoomFor}
use Rattle.node_list.specs.declared.node.ListNode.{ListNode}
use Rattle.node_list.proofs.WeaveLaws.{woven-same}
use Rattle.node_list.proofs.NodeLaws.{len-woven, room-woven, room-in_woven, on-ok}
use Rattle.node_list.proofs.nodes.Nodes.reserve.Goals as goal

pub returns-clause-succeeds : goal.returns-clause-succeeds
returns-clause-succeeds c = λ room.
    let P : Slab ListNode → Type 0 = λ v. HasRoomFor v c.args.additional in
    c.reserve.ensures.succeeds (room-woven c.self.inside.dummies.items c.self.inside.items c.args.additional (subst P (sym c.self.view_is) room))

pub returns-clause-values : goal.returns-clause-values
returns-clause-values c = λ key.
    woven-same c.self.inside.dummies.items c.self.inside.items c.reserve.new.self c.reserve.ensures.values key ∙ ap (λ (v : Slab ListNode). get v key) c.self.view_is

pub returns-clause-len : goal.returns-clause-len
returns-clause-len c =
    omega (
      arith,
      len-woven c.self.inside.dummies.items c.reserve.new.self,
      len-woven c.self.inside.dummies.items c.self.inside.items,
      c.reserve.ensures.len,
      ap (λ (v : Slab ListNode). slab_len v) c.self.view_is,
    )

pub returns-clause-room : goal.returns-clause-room
returns-clause-room c = on-ok c.reserve.result (room-in_woven c.self.inside.dummies.items c.reserve.new.self c.args.additional) c.reserve.ensures.room
