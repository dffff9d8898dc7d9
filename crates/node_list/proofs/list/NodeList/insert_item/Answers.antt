use Rattle.std.proofs.Common.{◌+◌, ◌*◌, Some, length, ◌∙◌, ap}
use Rattle.node_list.specs.Cells.{new_cell, new_item}
use Rattle.node_list.specs.inside.Walks.{cells_from}
use Rattle.node_list.specs.ListState.{ListState}
use Rattle.node_list.proofs.CellLaws.{length-put}
use Rattle.node_list.proofs.ListLaws.{put-list}
use Rattle.node_list.proofs.list.NodeList.insert_item.Goals as goal

pub invariant_of-self : goal.invariant_of-self
invariant_of-self c =
    put-list c.self.inside.nodes c.insert_item_from.new.nodes (new_cell c.insert_item_from.result (2 * c.args.reversed + 1) (Some (new_item c.args.term c.args.chain))) c.self.invariant
    c.insert_item_from.ensures.linked c.insert_item_from.ensures.cells c.insert_item_from.ensures.len

pub returns-clause-len : goal.returns-clause-len
returns-clause-len c =
    ap length c.insert_item_from.ensures.cells
    ∙ (length-put (new_cell c.insert_item_from.result (2 * c.args.reversed + 1) (Some (new_item c.args.term c.args.chain))) (cells_from c.self.inside.nodes (Some 0)) ∙ ap (λ (v : ListState). length v.cells + 1) c.self.view_is)
