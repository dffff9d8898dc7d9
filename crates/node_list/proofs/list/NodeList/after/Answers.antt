use Rattle.std.proofs.Common.{◌≡◌, Option, List, IsSome, subst, refl, sym, ◌∙◌, ap}
use Rattle.node_list.specs.Cells.{Cell}
use Rattle.node_list.specs.Places.{from, first_place, all_but_first}
use Rattle.node_list.specs.declared.node.ListNode.{ListNode}
use Rattle.node_list.specs.ListState.{ListState}
use Rattle.node_list.proofs.PlaceLaws.{place-node}
use Rattle.node_list.proofs.list.NodeList.after.Goals as goal

pub header-requires : goal.header-requires
header-requires c =
    let e = ap (λ (v : ListState). from c.args.at v.cells) c.self.view_is ∙ c.requires.is in
    let P : Option ListNode → Type 0 = λ o. IsSome o in
    subst P (sym (place-node c.self.inside.nodes c.args.at c.requires.cell c.requires.later c.self.invariant.linked e).is) refl

pub returns : goal.returns
returns c =
    let e = ap (λ (v : ListState). from c.args.at v.cells) c.self.view_is ∙ c.requires.is in
    let f = place-node c.self.inside.nodes c.args.at c.requires.cell c.requires.later c.self.invariant.linked e in
    let same : f.node ≡ c.header.ensures.node = cc (f.is, c.header.ensures.is) in
    c.get.ensures ∙ (sym c.header.ensures.next ∙ (ap (λ (n : ListNode). n.next) (sym same) ∙ (f.next ∙ ap (λ (zs : List Cell). first_place (all_but_first zs)) (sym c.requires.is))))
