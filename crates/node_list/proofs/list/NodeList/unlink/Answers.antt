use Rattle.std.proofs.Common.{◌≡◌, ◌+◌, Some, Option, IsSome, List, ◌∷◌, length, refl, sym, ◌∙◌, ap, subst}
use Rattle.slab.specs.Slab.{get}
use Rattle.node_list.specs.Cells.{Cell}
use Rattle.node_list.specs.Places.{from, cells_after, first_item}
use Rattle.node_list.specs.declared.node.Item.{Item}
use Rattle.node_list.specs.declared.node.ListNode.{ListNode}
use Rattle.node_list.specs.inside.Walks.{cells_from}
use Rattle.node_list.specs.ListState.{ListState}
use Rattle.node_list.proofs.PlaceLaws.{place-node, links-distinct, from-has, from-cells_after}
use Rattle.node_list.proofs.CellLaws.{length-without}
use Rattle.node_list.proofs.ListLaws.{without-list}
use Rattle.node_list.proofs.list.NodeList.unlink.Goals as goal

pub unlink_from-item-requires-clause-after : goal.unlink_from-item-requires-clause-after
unlink_from-item-requires-clause-after c =
    let e = ap (λ (v : ListState). from c.args.at (cells_after c.args.start v.cells)) c.self.view_is ∙ c.requires.is in
    from-has c.args.at (cells_after c.args.start (cells_from c.self.inside.nodes (Some 0))) c.requires.cell c.requires.later e

pub unlink_from-item-requires-clause-item : goal.unlink_from-item-requires-clause-item
unlink_from-item-requires-clause-item c =
    let cells = cells_from c.self.inside.nodes (Some 0) in
    let e = ap (λ (v : ListState). from c.args.at (cells_after c.args.start v.cells)) c.self.view_is ∙ c.requires.is in
    let apart = links-distinct (get c.self.inside.nodes) (Some 0) cells c.self.invariant.linked.links in
    let unpacked_node = from-cells_after c.args.start c.args.at cells c.requires.cell c.requires.later apart e in
    let f = place-node c.self.inside.nodes c.args.at c.requires.cell c.requires.later c.self.invariant.linked unpacked_node in
    let P : Option Item → Type 0 = λ o. IsSome o in
    record { node = f.node; is = f.is; has = subst P (sym (f.item ∙ c.requires.has)) refl }

pub unreachable-requires : goal.unreachable-requires
unreachable-requires c =
    let cells = cells_from c.self.inside.nodes (Some 0) in
    let e = ap (λ (v : ListState). from c.args.at (cells_after c.args.start v.cells)) c.self.view_is ∙ c.requires.is in
    let apart = links-distinct (get c.self.inside.nodes) (Some 0) cells c.self.invariant.linked.links in
    let unpacked_node = from-cells_after c.args.start c.args.at cells c.requires.cell c.requires.later apart e in
    let f = place-node c.self.inside.nodes c.args.at c.requires.cell c.requires.later c.self.invariant.linked unpacked_node in
    let same : f.node ≡ c.unlink_from-item.result = cc (f.is, c.unlink_from-item.ensures.node) in
    let item : c.unlink_from-item.result.item ≡ Some c.requires.item = ap (λ (n : ListNode). n.item) (sym same) ∙ (f.item ∙ c.requires.has) in
    cc (item, c.in-None.is)

pub invariant_of-self : goal.invariant_of-self
invariant_of-self c =
    let cells = cells_from c.self.inside.nodes (Some 0) in
    let e = ap (λ (v : ListState). from c.args.at (cells_after c.args.start v.cells)) c.self.view_is ∙ c.requires.is in
    let apart = links-distinct (get c.self.inside.nodes) (Some 0) cells c.self.invariant.linked.links in
    let unpacked_node = from-cells_after c.args.start c.args.at cells c.requires.cell c.requires.later apart e in
    without-list c.self.inside.nodes c.unlink_from-item.new.nodes c.args.at c.requires.cell c.requires.later c.requires.item c.self.invariant unpacked_node c.requires.has
    c.unlink_from-item.ensures.linked c.unlink_from-item.ensures.cells c.unlink_from-item.ensures.len

pub returns-clause-item : goal.returns-clause-item
returns-clause-item c =
    let cells = cells_from c.self.inside.nodes (Some 0) in
    let e = ap (λ (v : ListState). from c.args.at (cells_after c.args.start v.cells)) c.self.view_is ∙ c.requires.is in
    let apart = links-distinct (get c.self.inside.nodes) (Some 0) cells c.self.invariant.linked.links in
    let unpacked_node = from-cells_after c.args.start c.args.at cells c.requires.cell c.requires.later apart e in
    let f = place-node c.self.inside.nodes c.args.at c.requires.cell c.requires.later c.self.invariant.linked unpacked_node in
    let same : f.node ≡ c.unlink_from-item.result = cc (f.is, c.unlink_from-item.ensures.node) in
    let now : from c.args.at c.args.self.now.cells ≡ c.requires.cell ∷ c.requires.later = sym (ap (λ (v : ListState). from c.args.at v.cells) c.self.view_is) ∙ unpacked_node in
    ap first_item now ∙ (sym f.item ∙ (ap (λ (n : ListNode). n.item) same ∙ c.in-Some.is))

pub returns-clause-len : goal.returns-clause-len
returns-clause-len c =
    let cells = cells_from c.self.inside.nodes (Some 0) in
    let e = ap (λ (v : ListState). from c.args.at (cells_after c.args.start v.cells)) c.self.view_is ∙ c.requires.is in
    let apart = links-distinct (get c.self.inside.nodes) (Some 0) cells c.self.invariant.linked.links in
    let unpacked_node = from-cells_after c.args.start c.args.at cells c.requires.cell c.requires.later apart e in
    ap (λ (zs : List Cell). length zs + 1) c.unlink_from-item.ensures.cells
    ∙ (length-without c.args.at cells (from-has c.args.at cells c.requires.cell c.requires.later unpacked_node) ∙ ap (λ (v : ListState). length v.cells) c.self.view_is)
