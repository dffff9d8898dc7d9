use Rattle.std.proofs.Common.{◌≡◌, ℕ, ◌≤◌, ◌<◌, None}
use Rattle.slab.specs.Slab.{get}
use Rattle.node_list.specs.inside.FreeList.{live_node}
use Rattle.node_list.proofs.items.Items.next_item_at.Given as goal

abbrev pub invariant-loop-at : goal.invariant-loop-at
invariant-loop-at l = (k : ℕ) → l.start ≤ k → k < l.at → live_node (get l.self-inside.nodes k) ≡ None
