use Rattle.std.proofs.Common.{◌≡◌, ◌+◌, if◌then◌else◌, Some, set, List, Option, IsSome, option_map, refl, false, sym, ◌∙◌, ap, subst}
use Rattle.slab.specs.Slab.{Slab, get, slab_len, with_value}
use Rattle.node_list.specs.declared.node.ListNode.{ListNode}
use Rattle.node_list.specs.declared.node.StoredItem.{StoredItem}
use Rattle.node_list.specs.inside.PackedHeader.{is_free}
use Rattle.node_list.specs.inside.FreeList.{live_nodes, stored_node}
use Rattle.node_list.specs.inside.Lent.{node_with, nodes_with}
use Rattle.node_list.proofs.FreePlaceLaws.{has-place, live-at, live-node, len-written}
use Rattle.node_list.proofs.ItemLaws.{replace-invariant, with_value-live}
use Rattle.node_list.proofs.items.Items.chain_mut.Goals as goal
use Rattle.node_list.proofs.items.Items.chain_mut.Goals.{After-index_mut}

some : (c : After-index_mut) → IsSome (get c.args.self.now c.args.at) → is_free c.index_mut.result.now.header ≡ false
some c h =
    let P : Slab ListNode → Type 0 = λ v. IsSome (get v c.args.at) in
    let l = live-at c.self.inside.nodes c.args.at (subst P (sym c.self.view_is) h) in
    let same : l.0 ≡ c.index_mut.result.now = cc (l.1.0, c.index_mut.ensures.value) in
    let F : StoredItem → Type 0 = λ z. is_free z.header ≡ false in
    subst F same l.1.1

pub invariant_of-self-lent : goal.invariant_of-self-lent
invariant_of-self-lent c = λ w.
    let P : Slab ListNode → Type 0 = λ v. IsSome (get v c.args.at) in
    let old = c.index_mut.result.now in
    replace-invariant c.self.inside.nodes c.args.at (record old { item = record old.item { chain = w } }) c.self.inside.spare c.self.inside.first_item_bound c.self.inside.end c.self.inside.free_head c.self.inside.len
    (subst P (sym c.self.view_is) c.requires) (some (goal.at.invariant_of-self-lent c).After-index_mut c.requires) c.self.invariant

pub returns : goal.returns
returns c =
    let P : Slab ListNode → Type 0 = λ v. IsSome (get v c.args.at) in
    let there = subst P (sym c.self.view_is) c.requires in
    let n = c.self.inside.nodes in
    let old = c.index_mut.result.now in
    let live = some (goal.at.returns c).After-index_mut c.requires in
    let is = live-node n c.args.at old there c.index_mut.ensures.value in (
      (
        refl,
        λ w.
            let new : StoredItem = record old { item = record old.item { chain = w } } in
            ap (λ (zs : List (Option ListNode)). let z : Slab ListNode = record { slots = zs; vacant_key = n.vacant_key; capacity = slab_len (with_value n c.args.at new) + (if c.self.inside.spare then 1 else 0) } in z) (with_value-live n c.args.at new live)
            ∙ (ap (λ k. let z : Slab ListNode = record { slots = set (live_nodes n.slots) c.args.at (Some (stored_node new)); vacant_key = n.vacant_key; capacity = k + (if c.self.inside.spare then 1 else 0) } in z) (len-written n c.args.at new (has-place n c.args.at there))
            ∙ (ap (λ (o : Option ListNode). let z : Slab ListNode = record { slots = set (live_nodes n.slots) c.args.at (option_map (λ (m : ListNode). node_with m w) o); vacant_key = n.vacant_key; capacity = slab_len n + (if c.self.inside.spare then 1 else 0) } in z) (sym is)
            ∙ ap (λ (v : Slab ListNode). nodes_with c.args.at w v) c.self.view_is)),
      ),
      record {
        lends = tt;
        value = record {
          node = stored_node old;
          is = sym (ap (λ (v : Slab ListNode). get v c.args.at) c.self.view_is) ∙ is;
          chain = refl;
        };
      },
    )
