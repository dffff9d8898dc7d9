use Rattle.std.proofs.Common.{◌≡◌, Option, option_copied, subst, IsSome, refl, sym, ◌∙◌, ap}
use Rattle.node_list.specs.Places.{from, first_item}
use Rattle.node_list.specs.ListState.{ListState}
use Rattle.node_list.specs.declared.node.ListNode.{ListNode}
use Rattle.node_list.proofs.PlaceLaws.{place-node}
use Rattle.node_list.proofs.list.NodeList.item.Goals as goal

pub item-requires : goal.item-requires
item-requires c =
    let e = ap (λ (v : ListState). from c.args.at v.cells) c.self.view_is ∙ c.requires.is in
    let P : Option ListNode → Type 0 = λ o. IsSome o in
    subst P (sym (place-node c.self.inside.nodes c.args.at c.requires.cell c.requires.later c.self.invariant.linked e).is) refl

pub returns-in-Some : goal.returns-in-Some
returns-in-Some c =
    let e = ap (λ (v : ListState). from c.args.at v.cells) c.self.view_is ∙ c.requires.is in
    let f = place-node c.self.inside.nodes c.args.at c.requires.cell c.requires.later c.self.invariant.linked e in
    let same : f.node ≡ c.item.ensures.node = cc (f.is, c.item.ensures.is) in
    ap first_item c.requires.is ∙ (sym f.item ∙ (ap (λ (n : ListNode). n.item) same ∙ (c.item.ensures.shows ∙ ap option_copied c.in-Some.is)))

pub returns-in-None : goal.returns-in-None
returns-in-None c =
    let e = ap (λ (v : ListState). from c.args.at v.cells) c.self.view_is ∙ c.requires.is in
    let f = place-node c.self.inside.nodes c.args.at c.requires.cell c.requires.later c.self.invariant.linked e in
    let same : f.node ≡ c.item.ensures.node = cc (f.is, c.item.ensures.is) in
    ap first_item c.requires.is ∙ (sym f.item ∙ (ap (λ (n : ListNode). n.item) same ∙ (c.item.ensures.shows ∙ ap option_copied c.in-None.is)))
