use Rattle.std.proofs.Common.{◌∙◌, ap}
use Rattle.node_list.specs.ListState.{ListState}
use Rattle.node_list.proofs.WalkLaws.{same-cells_from}
use Rattle.node_list.proofs.ListLaws.{same-list}
use Rattle.node_list.proofs.list.NodeList.reserve.Goals as goal

pub invariant_of-self : goal.invariant_of-self
invariant_of-self c = same-list c.self.inside.nodes c.reserve.new.self c.reserve.ensures.values c.reserve.ensures.len c.self.invariant

pub returns-clause-cells : goal.returns-clause-cells
returns-clause-cells c =
    (same-cells_from c.self.inside.nodes c.reserve.new.self c.reserve.ensures.values c.reserve.ensures.len c.self.invariant.linked).1 ∙ ap (λ (v : ListState). v.cells) c.self.view_is
