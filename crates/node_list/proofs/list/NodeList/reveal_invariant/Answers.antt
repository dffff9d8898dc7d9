use Rattle.std.proofs.Common.{Option, IsSome, refl, sym, ◌∙◌, ap, subst, arith}
use Rattle.node_list.specs.Places.{from}
use Rattle.node_list.specs.ListState.{ListState}
use Rattle.node_list.specs.declared.node.ListNode.{ListNode}
use Rattle.node_list.proofs.PlaceLaws.{place-node}
use Rattle.node_list.proofs.list.NodeList.reveal_invariant.Goals as goal

pub returns-clause-places : goal.returns-clause-places
returns-clause-places c = λ at is_place.
    let e = ap (λ (v : ListState). from at v.cells) c.self.view_is ∙ is_place.is in
    let P : Option ListNode → Type 0 = λ o. IsSome o in
    omega (arith, c.reveal_invariant.ensures at (subst P (sym (place-node c.self.inside.nodes at is_place.cell is_place.later c.self.invariant.linked e).is) refl))
