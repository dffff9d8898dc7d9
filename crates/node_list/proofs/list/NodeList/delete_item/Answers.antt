use Rattle.std.proofs.Common.{◌≡◌, ◌+◌, Some, Option, IsSome, List, ◌∷◌, length, option_map, refl, sym, ◌∙◌, ap, subst}
use Rattle.slab.specs.Slab.{get}
use Rattle.node_list.specs.Cells.{Cell}
use Rattle.node_list.specs.Places.{from, cells_after, first_item}
use Rattle.node_list.specs.declared.node.Item.{Item}
use Rattle.node_list.specs.declared.node.ListNode.{ListNode}
use Rattle.node_list.specs.inside.Walks.{cells_from}
use Rattle.node_list.specs.ListState.{ListState}
use Rattle.node_list.proofs.PlaceLaws.{place-node, links-distinct, from-has, from-cells_after}
use Rattle.node_list.proofs.CellLaws.{length-without}
use Rattle.node_list.proofs.ListLaws.{without-list}
use Rattle.node_list.proofs.list.NodeList.delete_item.Goals as goal

pub delete_from-requires-clause-after : goal.delete_from-requires-clause-after
delete_from-requires-clause-after c =
    let e = ap (λ (v : ListState). from c.args.at (cells_after c.args.start v.cells)) c.self.view_is ∙ c.requires.is in
    from-has c.args.at (cells_after c.args.start (cells_from c.self.inside.nodes (Some 0))) c.requires.cell c.requires.later e

pub delete_from-requires-clause-item : goal.delete_from-requires-clause-item
delete_from-requires-clause-item c =
    let cells = cells_from c.self.inside.nodes (Some 0) in
    let e = ap (λ (v : ListState). from c.args.at (cells_after c.args.start v.cells)) c.self.view_is ∙ c.requires.is in
    let apart = links-distinct (get c.self.inside.nodes) (Some 0) cells c.self.invariant.linked.links in
    let unpacked_node = from-cells_after c.args.start c.args.at cells c.requires.cell c.requires.later apart e in
    let f = place-node c.self.inside.nodes c.args.at c.requires.cell c.requires.later c.self.invariant.linked unpacked_node in
    let P : Option Item → Type 0 = λ o. IsSome o in
    record { node = f.node; is = f.is; has = subst P (sym (f.item ∙ c.requires.has)) refl }

pub invariant_of-self : goal.invariant_of-self
invariant_of-self c =
    let cells = cells_from c.self.inside.nodes (Some 0) in
    let e = ap (λ (v : ListState). from c.args.at (cells_after c.args.start v.cells)) c.self.view_is ∙ c.requires.is in
    let apart = links-distinct (get c.self.inside.nodes) (Some 0) cells c.self.invariant.linked.links in
    let unpacked_node = from-cells_after c.args.start c.args.at cells c.requires.cell c.requires.later apart e in
    without-list c.self.inside.nodes c.delete_from.new.nodes c.args.at c.requires.cell c.requires.later c.requires.item c.self.invariant unpacked_node c.requires.has
    c.delete_from.ensures.linked c.delete_from.ensures.cells c.delete_from.ensures.len

pub returns-clause-count : goal.returns-clause-count
returns-clause-count c =
    let cells = cells_from c.self.inside.nodes (Some 0) in
    let e = ap (λ (v : ListState). from c.args.at (cells_after c.args.start v.cells)) c.self.view_is ∙ c.requires.is in
    let apart = links-distinct (get c.self.inside.nodes) (Some 0) cells c.self.invariant.linked.links in
    let unpacked_node = from-cells_after c.args.start c.args.at cells c.requires.cell c.requires.later apart e in
    let f = place-node c.self.inside.nodes c.args.at c.requires.cell c.requires.later c.self.invariant.linked unpacked_node in
    let count = c.delete_from.ensures.count in
    let same : f.node ≡ count.node = cc (f.is, count.is) in
    let now : from c.args.at c.args.self.now.cells ≡ c.requires.cell ∷ c.requires.later = sym (ap (λ (v : ListState). from c.args.at v.cells) c.self.view_is) ∙ unpacked_node in
    let item : first_item (from c.args.at c.args.self.now.cells) ≡ count.node.item = ap first_item now ∙ (sym f.item ∙ ap (λ (n : ListNode). n.item) same) in
    ap (λ (o : Option Item). option_map (λ (i : Item). length i.chain) o) item ∙ count.length

pub returns-clause-len : goal.returns-clause-len
returns-clause-len c =
    let cells = cells_from c.self.inside.nodes (Some 0) in
    let e = ap (λ (v : ListState). from c.args.at (cells_after c.args.start v.cells)) c.self.view_is ∙ c.requires.is in
    let apart = links-distinct (get c.self.inside.nodes) (Some 0) cells c.self.invariant.linked.links in
    let unpacked_node = from-cells_after c.args.start c.args.at cells c.requires.cell c.requires.later apart e in
    ap (λ (zs : List Cell). length zs + 1) c.delete_from.ensures.cells
    ∙ (length-without c.args.at cells (from-has c.args.at cells c.requires.cell c.requires.later unpacked_node) ∙ ap (λ (v : ListState). length v.cells) c.self.view_is)
