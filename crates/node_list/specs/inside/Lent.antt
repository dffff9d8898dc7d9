-- The nodes after a change of a chain.
use Rattle.std.specs.Prelude.{ℕ, List, option_map, slice_set}
use Rattle.slab.specs.Slab.{Slab, get}
use Rattle.ets_term.specs.declared.term.Term.{Term}
use Rattle.node_list.specs.Changes.{item_with}
use Rattle.node_list.specs.declared.node.ListNode.{ListNode}

abbrev pub node_with : ListNode → List Term → ListNode
node_with n w = record n { item = item_with n.item w }

-- the nodes with this chain in the item at a place
abbrev pub nodes_with : ℕ → List Term → Slab ListNode → Slab ListNode
nodes_with at w s = record s { slots = slice_set s.slots at (option_map (λ n. node_with n w) (get s at)) }
