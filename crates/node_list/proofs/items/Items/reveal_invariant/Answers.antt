use Rattle.std.proofs.Common.{IsSome, sym, subst, arith}
use Rattle.slab.specs.Slab.{Slab, get}
use Rattle.node_list.specs.declared.node.ListNode.{ListNode}
use Rattle.node_list.proofs.FreePlaceLaws.{has-place}
use Rattle.node_list.proofs.items.Items.reveal_invariant.Goals as goal

pub returns : goal.returns
returns c = λ at some.
    let P : Slab ListNode → Type 0 = λ v. IsSome (get v at) in
    omega (arith, c.self.invariant.within at (has-place c.self.inside.nodes at (subst P (sym c.self.view_is) some)), c.self.invariant.few)
