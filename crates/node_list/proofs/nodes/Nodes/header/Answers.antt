use Rattle.std.proofs.Common.{◌≡◌, Option, IsSome, sym, ◌∙◌, ap, subst, arith}
use Rattle.slab.specs.Slab.{Slab, get}
use Rattle.node_list.specs.declared.node.ListNode.{ListNode}
use Rattle.node_list.specs.declared.packed.PackedHeader.{PackedHeader}
use Rattle.node_list.specs.inside.PackedHeader.{next_in}
use Rattle.node_list.proofs.NodeLaws.{at-odd, dummy-of}
use Rattle.node_list.proofs.nodes.Nodes.header.Goals as goal

pub header-requires : goal.header-requires
header-requires c =
    let P : Slab ListNode → Type 0 = λ v. IsSome (get v c.args.at) in
    let O : Option ListNode → Type 0 = λ o. IsSome o in
    subst O (at-odd c.self.inside.dummies.items c.self.inside.items c.args.at c.if-at-eq1.true) (subst P (sym c.self.view_is) c.requires)

pub index-requires : goal.index-requires
index-requires c =
    let P : Slab ListNode → Type 0 = λ v. IsSome (get v c.args.at) in
    let d = dummy-of c.self.inside.dummies.items c.self.inside.items c.args.at (omega (arith, c.if-at-eq1.false)) (subst P (sym c.self.view_is) c.requires) in
    omega (arith, d.1.1.within, c.self.inside.dummies.ok.0)

pub returns-then-at-eq1 : goal.returns-then-at-eq1
returns-then-at-eq1 c =
    let h = c.header.ensures in
    record {
      node = h.node;
      is = sym (ap (λ (v : Slab ListNode). get v c.args.at) c.self.view_is) ∙ (at-odd c.self.inside.dummies.items c.self.inside.items c.args.at c.if-at-eq1.true ∙ h.is);
      key = h.key;
      next = h.next;
      fits = h.fits;
    }

pub returns-else-at-eq1 : goal.returns-else-at-eq1
returns-else-at-eq1 c =
    let P : Slab ListNode → Type 0 = λ v. IsSome (get v c.args.at) in
    let d = dummy-of c.self.inside.dummies.items c.self.inside.items c.args.at (omega (arith, c.if-at-eq1.false)) (subst P (sym c.self.view_is) c.requires) in
    let same : c.index.result.now ≡ d.1.1.header = c.index.ensures ∙ d.1.1.is _ in
    record {
      node = d.0;
      is = sym (ap (λ (v : Slab ListNode). get v c.args.at) c.self.view_is) ∙ d.1.0;
      key = omega (arith, c.header-else-at-eq1.ensures.key, ap (λ (p : PackedHeader). p.reversed) same, ap (λ (m : ListNode). m.split_key) d.1.1.shows);
      next = ap (λ (m : ListNode). m.next) d.1.1.shows ∙ (ap (λ (p : PackedHeader). next_in p) (sym same) ∙ sym c.header-else-at-eq1.ensures.next);
      fits = c.header-else-at-eq1.ensures.fits;
    }
