use Rattle.std.proofs.Common.{None, Option, IsSome, refl, sym, ◌∙◌, ap, subst, arith}
use Rattle.slab.specs.Slab.{Slab, get, slab_len, Updates}
use Rattle.node_list.specs.declared.node.ListNode.{ListNode}
use Rattle.node_list.specs.inside.Woven.{woven}
use Rattle.node_list.proofs.NodeLaws.{ItemAt, item-at, len-woven, removed}
use Rattle.node_list.proofs.nodes.Nodes.remove.Goals as goal
use Rattle.node_list.proofs.nodes.Nodes.remove.Goals.{After-self}

-- the item at the place
item : (c : After-self) → ItemAt c.self.inside.items c.args.at c.requires.node
item c = item-at c.self.inside.dummies.items c.self.inside.items c.args.at c.requires.node (ap (λ (v : Slab ListNode). get v c.args.at) c.self.view_is ∙ c.requires.is) c.requires.has

pub remove-requires : goal.remove-requires
remove-requires c =
    let O : Option ListNode → Type 0 = λ o. IsSome o in
    subst O (sym (item (goal.at.remove-requires c).After-self).is) refl

pub returns-clause-value : goal.returns-clause-value
returns-clause-value c = c.requires.is ∙ (sym (item (goal.at.returns-clause-value c).After-self).is ∙ c.remove.ensures.value)

pub returns-clause-updates : goal.returns-clause-updates
returns-clause-updates c =
    let V : Slab ListNode → Type 0 = λ v. Updates v (woven c.self.inside.dummies.items c.remove.new.self) c.args.at None in
    subst V c.self.view_is (removed c.self.inside.dummies.items c.self.inside.items c.remove.new.self c.args.at None (item (goal.at.returns-clause-updates c).After-self).odd c.remove.ensures.updates)

pub returns-clause-len : goal.returns-clause-len
returns-clause-len c =
    omega (
      arith,
      len-woven c.self.inside.dummies.items c.remove.new.self,
      len-woven c.self.inside.dummies.items c.self.inside.items,
      c.remove.ensures.len,
      ap (λ (v : Slab ListNode). slab_len v) c.self.view_is,
    )
