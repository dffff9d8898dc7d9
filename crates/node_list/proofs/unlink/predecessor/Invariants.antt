use Rattle.std.proofs.Common.{ℕ, Some, length}
use Rattle.node_list.specs.Places.{all_but_first}
use Rattle.node_list.specs.inside.Walks.{cells_from, IsLinked, HasPlace, IsPredecessor}
use Rattle.node_list.proofs.unlink.predecessor.Given as goal

abbrev pub invariant-loop-place : goal.invariant-loop-place
invariant-loop-place l = record {
  linked : IsLinked l.nodes (Some l.before);
  ahead : HasPlace l.at (all_but_first (cells_from l.nodes (Some l.before)));
  up_to : (x : ℕ) → IsPredecessor x l.at (cells_from l.nodes (Some l.before)) → IsPredecessor x l.at (cells_from l.nodes (Some l.start));
}

abbrev pub decreases-loop-place : goal.decreases-loop-place
decreases-loop-place l = length (cells_from l.nodes (Some l.before))
