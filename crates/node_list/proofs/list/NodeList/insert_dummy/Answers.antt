use Rattle.std.proofs.Common.{◌+◌, ◌*◌, None, Some, length, sym, ◌∙◌, ap, subst}
use Rattle.slab.specs.Slab.{Slab}
use Rattle.node_list.specs.declared.node.ListNode.{ListNode}
use Rattle.node_list.specs.Cells.{new_cell}
use Rattle.node_list.specs.inside.Walks.{cells_from, ListInvariant}
use Rattle.node_list.specs.ListState.{ListState}
use Rattle.node_list.proofs.CellLaws.{length-put}
use Rattle.node_list.proofs.ListLaws.{put-list}
use Rattle.node_list.proofs.list.NodeList.insert_dummy.Goals as goal

pub invariant_of-self : goal.invariant_of-self
invariant_of-self c =
    let I : Slab ListNode → Type 0 = λ v. ListInvariant v in
    subst I (sym c.in_err-at.ensures.err) c.self.invariant

pub invariant_of-self-2 : goal.invariant_of-self-2
invariant_of-self-2 c =
    put-list c.self.inside.nodes c.insert_dummy_from.new.nodes (new_cell c.in_ok-at.at (2 * c.args.reversed) None) c.self.invariant
    c.in_ok-at.ensures.linked c.in_ok-at.ensures.cells c.in_ok-at.ensures.len

pub returns-clause-len : goal.returns-clause-len
returns-clause-len c =
    ap length c.in_ok-at.ensures.cells
    ∙ (length-put (new_cell c.in_ok-at.at (2 * c.args.reversed) None) (cells_from c.self.inside.nodes (Some 0)) ∙ ap (λ (v : ListState). length v.cells + 1) c.self.view_is)
