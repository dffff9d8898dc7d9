use Rattle.std.proofs.Common.{Some, List, length, sym, ◌∙◌, ap, subst}
use Rattle.slab.specs.Slab.{Slab}
use Rattle.node_list.specs.declared.node.ListNode.{ListNode}
use Rattle.node_list.specs.Cells.{Cell, Sorted}
use Rattle.node_list.specs.Places.{from}
use Rattle.node_list.specs.Search.{place_of, visited_cells}
use Rattle.node_list.specs.Ticks.{ticks}
use Rattle.node_list.specs.inside.Walks.{cells_from, IsLinked}
use Rattle.node_list.specs.ListState.{ListState}
use Rattle.node_list.proofs.CellLaws.{sorted-from}
use Rattle.node_list.proofs.PlaceLaws.{cells_from-suffix}
use Rattle.node_list.proofs.list.NodeList.find.Goals as goal

pub find_from-requires-clause-linked : goal.find_from-requires-clause-linked
find_from-requires-clause-linked c =
    let e = ap (λ (v : ListState). from c.args.start v.cells) c.self.view_is ∙ c.requires.is in
    let P : Slab ListNode → Type 0 = λ s. IsLinked s (Some c.args.start) in
    subst P (sym c.new-nodes.ensures) (cells_from-suffix c.self.inside.nodes c.args.start c.requires.cell c.requires.later c.self.invariant.linked e).0

pub find_from-requires-clause-sorted : goal.find_from-requires-clause-sorted
find_from-requires-clause-sorted c =
    let e = ap (λ (v : ListState). from c.args.start v.cells) c.self.view_is ∙ c.requires.is in
    let P : Slab ListNode → Type 0 = λ s. Sorted (cells_from s (Some c.args.start)) in
    let S : List Cell → Type 0 = λ zs. Sorted zs in
    let r = cells_from-suffix c.self.inside.nodes c.args.start c.requires.cell c.requires.later c.self.invariant.linked e in
    subst P (sym c.new-nodes.ensures) (subst S (sym r.1) (sorted-from c.args.start (cells_from c.self.inside.nodes (Some 0)) c.self.invariant.sorted))

pub returns-clause-found : goal.returns-clause-found
returns-clause-found c =
    let e = ap (λ (v : ListState). from c.args.start v.cells) c.self.view_is in
    let r = cells_from-suffix c.self.inside.nodes c.args.start c.requires.cell c.requires.later c.self.invariant.linked (e ∙ c.requires.is) in
    let is = ap (λ (s : Slab ListNode). cells_from s (Some c.args.start)) c.new-nodes.ensures ∙ (r.1 ∙ e) in
    c.find_from.ensures.found ∙ ap (place_of c.args.split_key c.args.term.now) is

pub returns-clause-ticks : goal.returns-clause-ticks
returns-clause-ticks c =
    let e = ap (λ (v : ListState). from c.args.start v.cells) c.self.view_is in
    let r = cells_from-suffix c.self.inside.nodes c.args.start c.requires.cell c.requires.later c.self.invariant.linked (e ∙ c.requires.is) in
    let is = ap (λ (s : Slab ListNode). cells_from s (Some c.args.start)) c.new-nodes.ensures ∙ (r.1 ∙ e) in
    c.find_from.ensures.ticks ∙ ap (λ (zs : List Cell). ticks (length (visited_cells c.args.split_key c.args.term.now zs)) c.args.steps.now) is
