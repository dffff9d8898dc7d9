use Rattle.std.proofs.Common.{subst}
use Rattle.node_list.specs.Places.{IsNextItem}
use Rattle.node_list.specs.ListState.{ListState}
use Rattle.node_list.proofs.CountLaws.{item-from}
use Rattle.node_list.proofs.list.NodeList.next_item_at.Goals as goal

pub returns : goal.returns
returns c =
    let P : ListState → Type 0 = λ v. IsNextItem c.args.start c.next_item_at.result v.cells in
    subst P c.self.view_is (item-from c.self.inside.nodes c.args.start c.next_item_at.result c.self.invariant c.next_item_at.ensures)
