use Rattle.std.proofs.Common.{Some, subst}
use Rattle.slab.specs.Slab.{get}
use Rattle.node_list.specs.Places.{HasDistinctPlaces}
use Rattle.node_list.specs.inside.Walks.{cells_from}
use Rattle.node_list.specs.ListState.{ListState}
use Rattle.node_list.proofs.PlaceLaws.{links-distinct}
use Rattle.node_list.proofs.list.NodeList.head.Goals as goal

pub returns-clause-apart : goal.returns-clause-apart
returns-clause-apart c =
    let P : ListState → Type 0 = λ v. HasDistinctPlaces v.cells in
    subst P c.self.view_is (links-distinct (get c.self.inside.nodes) (Some 0) (cells_from c.self.inside.nodes (Some 0)) c.self.invariant.linked.links)
