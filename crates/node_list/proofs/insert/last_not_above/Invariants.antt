use Rattle.std.proofs.Common.{◌≡◌, Some, length}
use Rattle.node_list.specs.inside.Walks.{last_not_above_in}
use Rattle.node_list.specs.inside.Walks.{cells_from, IsLinked, NodeHasSplitKeyAtMost}
use Rattle.node_list.proofs.insert.last_not_above.Given as goal

abbrev pub invariant-loop-place : goal.invariant-loop-place
invariant-loop-place l = record {
  linked : IsLinked l.nodes (Some l.last);
  up_to : NodeHasSplitKeyAtMost l.nodes l.last l.split_key;
  same : last_not_above_in l.split_key l.last (cells_from l.nodes (Some l.last)) ≡ last_not_above_in l.split_key l.start (cells_from l.nodes (Some l.start));
}

abbrev pub decreases-loop-place : goal.decreases-loop-place
decreases-loop-place l = length (cells_from l.nodes (Some l.last))
