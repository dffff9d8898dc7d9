use Rattle.std.proofs.Common.{◌≡◌, ℕ, ◌+◌, None, Some, Option, List, [], ◌∷◌, length, refl, sym, ◌∙◌, ap, subst, count_by, is_some}
use Rattle.slab.specs.Slab.{Slab, get, slab_len, Updates}
use Rattle.node_list.specs.Cells.{Cell, Sorted, StartsWithDummy}
use Rattle.node_list.specs.declared.node.ListNode.{ListNode}
use Rattle.node_list.specs.inside.Walks.{cells_from, cell_of, IsLinked}
use Rattle.node_list.specs.inside.Woven.{dummy_node}
use Rattle.node_list.proofs.WalkLaws.{only-node, only-linked}
use Rattle.node_list.proofs.list.NodeList.new.Goals as goal

-- the list of the dummy alone
record Alone (s : Slab ListNode) : Type 0 where
  pub is : cells_from s (Some 0) ≡ cell_of 0 (dummy_node 0 None) ∷ []
  pub linked : IsLinked s (Some 0)
  pub one : slab_len s ≡ 1

alone : (s t : Slab ListNode) (at : ℕ) (next : Option ℕ) → s.slots ≡ [] → (s.slots ≡ [] → at ≡ 0) → next ≡ None → Updates s t at (Some (dummy_node 0 next)) → slab_len t ≡ slab_len s + 1 → Alone t
alone s t at next empty first none u len =
    let shown : get t 0 ≡ Some (dummy_node 0 None) = ap (get t) (sym (first empty)) ∙ (u.changed ∙ ap (λ (o : Option ℕ). Some (dummy_node 0 o)) none) in
    let one : slab_len t ≡ 1 = len ∙ ap (λ (zs : List (Option ListNode)). count_by is_some zs + 1) empty in
    let is = only-node t (dummy_node 0 None) shown refl one in
    record { is = is; linked = only-linked t (dummy_node 0 None) shown refl is; one = one }

pub invariant_of-result : goal.invariant_of-result
invariant_of-result c =
    let t = c.push_dummy.new.self in
    let a = alone c.new-nodes.result t c.in_ok-_head._head c.none.result c.new-nodes.ensures.empty c.in_ok-_head.ensures.first c.none.ensures c.in_ok-_head.ensures.updates c.in_ok-_head.ensures.len in
    let P : List Cell → Type 0 = λ zs. Sorted zs in
    let D : List Cell → Type 0 = λ zs. StartsWithDummy zs in
    record { linked = a.linked; sorted = subst P (sym a.is) (tt, tt); first = subst D (sym a.is) (refl, refl); counted = a.one ∙ ap length (sym a.is) }

pub returns : goal.returns
returns c = (alone c.new-nodes.result c.push_dummy.new.self c.in_ok-_head._head c.none.result c.new-nodes.ensures.empty c.in_ok-_head.ensures.first c.none.ensures c.in_ok-_head.ensures.updates c.in_ok-_head.ensures.len).is
