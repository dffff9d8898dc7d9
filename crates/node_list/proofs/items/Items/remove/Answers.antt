use Rattle.std.proofs.Common.{ℕ, ◌+◌, ◌-◌, None, Some, Option, IsSome, count_by, is_some, sym, ◌∙◌, ap, subst, arith}
use Rattle.slab.specs.Slab.{Slab, get, slab_len, with_value, Updates}
use Rattle.node_list.specs.declared.node.ListNode.{ListNode}
use Rattle.node_list.specs.declared.node.StoredItem.{StoredItem}
use Rattle.node_list.specs.inside.FreeList.{live_nodes, items_view, HasNoItemBetween, ItemsInvariant}
use Rattle.node_list.proofs.FreePlaceLaws.{updates-live}
use Rattle.node_list.proofs.FreeListLaws.{free_head-fits}
use Rattle.node_list.proofs.ItemLaws.{Freed, freed, remove-invariant}
use Rattle.node_list.proofs.items.Items.remove.Goals as goal
use Rattle.node_list.proofs.items.Items.remove.Goals.{After-replace_at-item}

pub free-free-requires : goal.free-free-requires
free-free-requires c = free_head-fits c.self.inside.nodes c.self.inside.free_head c.self.inside.len c.self.invariant.free_list (λ k some. omega (arith, c.self.invariant.within k some, c.self.invariant.few))

-- the slab before and after
gave : (c : After-replace_at-item) → Freed c.self.inside.nodes c.args.at c.free-free.result
gave c =
    let P : Slab ListNode → Type 0 = λ v. IsSome (get v c.args.at) in
    freed c.self.inside.nodes c.args.at c.free-free.result (subst P (sym c.self.view_is) c.requires) c.free-free.ensures.free

pub invariant_of-self : goal.invariant_of-self
invariant_of-self c =
    let P : Slab ListNode → Type 0 = λ v. IsSome (get v c.args.at) in
    let g = gave (goal.at.invariant_of-self c).After-replace_at-item in
    let B : Slab StoredItem → Type 0 = λ m. HasNoItemBetween c.self.inside.first_item_bound c.bound_after_remove-self-inside.result m in
    let H : Slab StoredItem → Type 0 = λ m. ItemsInvariant m c.self.inside.spare c.bound_after_remove-self-inside.result c.self.inside.end c.to-self-inside.result (c.self.inside.len - 1) in
    let I : Option ℕ → Type 0 = λ o. ItemsInvariant (with_value c.self.inside.nodes c.args.at c.free-free.result) c.self.inside.spare c.bound_after_remove-self-inside.result c.self.inside.end o (c.self.inside.len - 1) in
    subst H (sym c.replace_at-item.ensures.now)
    (subst I (sym c.to-self-inside.ensures)
    (remove-invariant c.self.inside.nodes c.args.at c.free-free.result c.self.inside.spare c.self.inside.first_item_bound c.bound_after_remove-self-inside.result c.self.inside.end c.self.inside.free_head c.self.inside.len (c.self.inside.len - 1) (subst P (sym c.self.view_is) c.requires)
    c.free-free.ensures.free c.free-free.ensures.next (omega (arith, g.len, c.self.invariant.counted)) (subst B c.replace_at-item.ensures.now c.bound_after_remove-self-inside.ensures) c.self.invariant))

pub returns-clause-updates : goal.returns-clause-updates
returns-clause-updates c =
    let g = gave (goal.at.returns-clause-updates c).After-replace_at-item in
    let n = c.self.inside.nodes in
    let u = updates-live n (with_value n c.args.at c.free-free.result) c.args.at (Some c.free-free.result) g.updates in
    let S : Slab StoredItem → Type 0 = λ m. Updates c.args.self.now (items_view m c.self.inside.spare) c.args.at None in
    subst S (sym c.replace_at-item.ensures.now) (record { changed = g.now; others = λ j other. u.1 j other ∙ ap (λ (v : Slab ListNode). get v j) c.self.view_is })

pub returns-clause-len : goal.returns-clause-len
returns-clause-len c =
    let g = gave (goal.at.returns-clause-len c).After-replace_at-item in
    ap (λ (m : Slab StoredItem). count_by is_some (live_nodes m.slots) + 1) c.replace_at-item.ensures.now ∙ (g.len ∙ ap (λ (v : Slab ListNode). slab_len v) c.self.view_is)
