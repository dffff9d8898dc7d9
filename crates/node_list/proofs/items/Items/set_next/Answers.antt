use Rattle.std.proofs.Common.{◌≡◌, ◌+◌, if◌then◌else◌, Some, set, List, Option, IsSome, sym, ◌∙◌, ap, subst}
use Rattle.slab.specs.Slab.{Slab, get, slab_len, with_value}
use Rattle.node_list.specs.declared.node.ListNode.{ListNode}
use Rattle.node_list.specs.declared.node.StoredItem.{StoredItem}
use Rattle.node_list.specs.inside.FreeList.{live_nodes, stored_node, item_node}
use Rattle.node_list.proofs.FreePlaceLaws.{has-place, live-node, len-written}
use Rattle.node_list.proofs.ItemLaws.{replace-invariant, with_value-live}
use Rattle.node_list.proofs.items.Items.set_next.Goals as goal

pub invariant_of-self : goal.invariant_of-self
invariant_of-self c =
    let P : Slab ListNode → Type 0 = λ v. IsSome (get v c.args.at) in
    replace-invariant c.self.inside.nodes c.args.at (record { header = c.with_next-stored.result; item = c.index_mut-stored.result.now.item }) c.self.inside.spare c.self.inside.first_item_bound c.self.inside.end c.self.inside.free_head c.self.inside.len
    (subst P (sym c.self.view_is) c.requires.has) c.with_next-stored.ensures.live c.self.invariant

pub returns : goal.returns
returns c =
    let P : Slab ListNode → Type 0 = λ v. IsSome (get v c.args.at) in
    let some = subst P (sym c.self.view_is) c.requires.has in
    let n = c.self.inside.nodes in
    let old = c.index_mut-stored.result.now in
    let new : StoredItem = record { header = c.with_next-stored.result; item = old.item } in
    let node : stored_node new ≡ record (stored_node old) { next = c.args.next } = λ t. item_node (c.with_next-stored.ensures.key t) (c.with_next-stored.ensures.next t) old.item in
    record {
      node = stored_node old;
      was = sym (ap (λ (v : Slab ListNode). get v c.args.at) c.self.view_is) ∙ live-node n c.args.at old some c.index_mut-stored.ensures.value;
      now = ap (λ (zs : List (Option ListNode)). let z : Slab ListNode = record { slots = zs; vacant_key = n.vacant_key; capacity = slab_len (with_value n c.args.at new) + (if c.self.inside.spare then 1 else 0) } in z) (with_value-live n c.args.at new c.with_next-stored.ensures.live)
          ∙ (ap (λ k. let z : Slab ListNode = record { slots = set (live_nodes n.slots) c.args.at (Some (stored_node new)); vacant_key = n.vacant_key; capacity = k + (if c.self.inside.spare then 1 else 0) } in z) (len-written n c.args.at new (has-place n c.args.at some))
          ∙ (ap (λ (v : Slab ListNode). with_value v c.args.at (stored_node new)) c.self.view_is
          ∙ ap (λ (m : ListNode). with_value c.args.self.now c.args.at m) node));
    }
