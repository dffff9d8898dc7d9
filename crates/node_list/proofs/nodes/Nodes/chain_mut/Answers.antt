use Rattle.std.proofs.Common.{◌≡◌, Some, Option, IsSome, refl, sym, ◌∙◌, ap, subst}
use Rattle.slab.specs.Slab.{Slab, get}
use Rattle.node_list.specs.declared.node.ListNode.{ListNode}
use Rattle.node_list.specs.inside.Lent.{nodes_with}
use Rattle.node_list.proofs.NodeLaws.{ItemAt, item-at, lent}
use Rattle.node_list.proofs.nodes.Nodes.chain_mut.Goals as goal
use Rattle.node_list.proofs.nodes.Nodes.chain_mut.Goals.{After-self}

-- the item at the place
item : (c : After-self) → ItemAt c.self.inside.items c.args.at c.requires.node
item c = item-at c.self.inside.dummies.items c.self.inside.items c.args.at c.requires.node (ap (λ (v : Slab ListNode). get v c.args.at) c.self.view_is ∙ c.requires.is) c.requires.has

pub chain_mut-requires : goal.chain_mut-requires
chain_mut-requires c =
    let O : Option ListNode → Type 0 = λ o. IsSome o in
    subst O (sym (item (goal.at.chain_mut-requires c).After-self).is) refl

pub returns : goal.returns
returns c =
    let i = item (goal.at.returns c).After-self in
    let h = c.chain_mut.ensures.value in
    let same : c.requires.node ≡ h.node = cc (i.is, h.is) in (
      (
        refl,
        λ w. lent c.self.inside.dummies.items c.self.inside.items c.args.at w c.requires.node i ∙ ap (λ (v : Slab ListNode). nodes_with c.args.at w v) c.self.view_is,
      ),
      record { lends = tt; value = record { node = h.node; is = c.requires.is ∙ ap Some same; chain = h.chain } },
    )
