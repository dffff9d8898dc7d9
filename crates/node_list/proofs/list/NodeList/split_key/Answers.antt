use Rattle.std.proofs.Common.{◌≡◌, Option, Some, IsSome, subst, refl, sym, ◌∙◌, ap}
use Rattle.node_list.specs.Places.{from, first_split_key}
use Rattle.node_list.specs.ListState.{ListState}
use Rattle.node_list.specs.declared.node.ListNode.{ListNode}
use Rattle.node_list.proofs.PlaceLaws.{place-node}
use Rattle.node_list.proofs.list.NodeList.split_key.Goals as goal

pub header-requires : goal.header-requires
header-requires c =
    let e = ap (λ (v : ListState). from c.args.at v.cells) c.self.view_is ∙ c.requires.is in
    let P : Option ListNode → Type 0 = λ o. IsSome o in
    subst P (sym (place-node c.self.inside.nodes c.args.at c.requires.cell c.requires.later c.self.invariant.linked e).is) refl

pub returns : goal.returns
returns c =
    let e = ap (λ (v : ListState). from c.args.at v.cells) c.self.view_is ∙ c.requires.is in
    let f = place-node c.self.inside.nodes c.args.at c.requires.cell c.requires.later c.self.invariant.linked e in
    let same : f.node ≡ c.header.ensures.node = cc (f.is, c.header.ensures.is) in
    ap first_split_key c.requires.is ∙ ap Some (sym f.key ∙ (ap (λ (n : ListNode). n.split_key) same ∙ c.header.ensures.key))
