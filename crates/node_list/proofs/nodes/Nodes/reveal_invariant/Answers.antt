use Rattle.std.proofs.Common.{◌%◌, ◌/◌, IsSome, Option, inl, inr, sym, subst, arith}
use Rattle.std.proofs.lemmas.Bool.{cases_eq}
use Rattle.slab.specs.Slab.{Slab, get}
use Rattle.node_list.specs.declared.node.ListNode.{ListNode}
use Rattle.node_list.proofs.NodeLaws.{at-odd, dummy-of}
use Rattle.node_list.proofs.nodes.Nodes.reveal_invariant.Goals as goal

pub returns : goal.returns
returns c = λ at some.
    let P : Slab ListNode → Type 0 = λ v. IsSome (get v at) in
    let O : Option ListNode → Type 0 = λ o. IsSome o in
    let there = subst P (sym c.self.view_is) some in
    elim (cases_eq (at % 2) 0) [
      | inl even ↦
          let d = dummy-of c.self.inside.dummies.items c.self.inside.items at even there in
          omega (arith, even, d.1.1.within, c.self.invariant.few)
      | inr odd ↦
          omega (arith, odd, c.reveal_invariant.ensures (at / 2) (subst O (at-odd c.self.inside.dummies.items c.self.inside.items at (omega (arith, odd))) there))
    ]
