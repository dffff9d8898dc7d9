use Rattle.std.proofs.Common.{◌≡◌, ◌^◌, ◌<◌, Some, None, length}
use Rattle.node_list.specs.Cells.{Sorted}
use Rattle.node_list.specs.Search.{place_of, visited_cells}
use Rattle.node_list.specs.Ticks.{ticks}
use Rattle.node_list.specs.inside.Walks.{cells_from, IsLinked}
use Rattle.node_list.proofs.find.find_from.Given as goal

abbrev pub invariant-loop-at : goal.invariant-loop-at
invariant-loop-at l = record {
  linked : IsLinked l.nodes.nodes.now l.at;
  sorted : Sorted (cells_from l.nodes.nodes.now l.at);
  found : place_of l.split_key l.term (cells_from l.nodes.nodes.now l.at) ≡ place_of l.split_key l.term (cells_from l.nodes.nodes.now (Some l.start));
  in_range : l.at ≡ None → l.steps < 2 ^ 64;
  ticked : ticks (length (visited_cells l.split_key l.term (cells_from l.nodes.nodes.now l.at))) l.steps ≡ ticks (length (visited_cells l.split_key l.term (cells_from l.nodes.nodes.now (Some l.start)))) l.initial.steps;
}

abbrev pub decreases-loop-at : goal.decreases-loop-at
decreases-loop-at l = length (cells_from l.nodes.nodes.now l.at)
