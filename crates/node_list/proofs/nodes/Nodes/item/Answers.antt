use Rattle.std.proofs.Common.{Option, IsSome, sym, ◌∙◌, ap, subst, arith}
use Rattle.slab.specs.Slab.{Slab, get}
use Rattle.node_list.specs.declared.node.ListNode.{ListNode}
use Rattle.node_list.proofs.NodeLaws.{at-odd, dummy-of}
use Rattle.node_list.proofs.nodes.Nodes.item.Goals as goal

pub item-requires : goal.item-requires
item-requires c =
    let P : Slab ListNode → Type 0 = λ v. IsSome (get v c.args.at) in
    let O : Option ListNode → Type 0 = λ o. IsSome o in
    subst O (at-odd c.self.inside.dummies.items c.self.inside.items c.args.at c.if-at-eq1.true) (subst P (sym c.self.view_is) c.requires)

pub returns-then-at-eq1 : goal.returns-then-at-eq1
returns-then-at-eq1 c =
    record {
      node = c.item.ensures.node;
      is = sym (ap (λ (v : Slab ListNode). get v c.args.at) c.self.view_is) ∙ (at-odd c.self.inside.dummies.items c.self.inside.items c.args.at c.if-at-eq1.true ∙ c.item.ensures.is);
      shows = c.item.ensures.shows;
    }

pub returns-else-at-eq1 : goal.returns-else-at-eq1
returns-else-at-eq1 c =
    let P : Slab ListNode → Type 0 = λ v. IsSome (get v c.args.at) in
    let d = dummy-of c.self.inside.dummies.items c.self.inside.items c.args.at (omega (arith, c.if-at-eq1.false)) (subst P (sym c.self.view_is) c.requires) in
    record {
      node = d.0;
      is = sym (ap (λ (v : Slab ListNode). get v c.args.at) c.self.view_is) ∙ d.1.0;
      shows = ap (λ (m : ListNode). m.item) d.1.1.shows;
    }
