-- The places of a list: the dummies have the even places, and the items the odd ones.
use Rattle.std.specs.Prelude.{ℕ, ◌+◌, ◌*◌, ◌<◌, ◌^◌, List, [], ◌∷◌, length, map, Option, Some, None}
use Rattle.slab.specs.Slab.{Slab}
use Rattle.node_list.specs.declared.node.ListNode.{ListNode}
use Rattle.node_list.specs.declared.packed.PackedHeader.{PackedHeader}
use Rattle.node_list.specs.inside.PackedHeader.{next_in}

-- a dummy as a node
abbrev pub dummy_node : ℕ → Option ℕ → ListNode
dummy_node reversed next = record { split_key = 2 * reversed; next = next; item = None }

abbrev pub stored_dummy : PackedHeader → Option ListNode
stored_dummy p = Some (dummy_node p.reversed (next_in p))

-- the elements of two lists in turn, with None past the end of one
unfoldable pub weave : {T : Type 0} → List (Option T) → List (Option T) → List (Option T)
weave [] [] = []
weave [] (y ∷ ys) = None ∷ y ∷ weave [] ys
weave (x ∷ xs) [] = x ∷ None ∷ weave xs []
weave (x ∷ xs) (y ∷ ys) = x ∷ y ∷ weave xs ys

-- the nodes of these dummies and these items
abbrev pub woven : List PackedHeader → Slab ListNode → Slab ListNode
woven dummies items = record {
  slots = weave (map stored_dummy dummies) items.slots;
  vacant_key = items.vacant_key;
  capacity = length dummies + items.capacity;
}

-- each place of a dummy fits a link
pub record NodesInvariant (dummies : List PackedHeader) : Type 0 where
  pub few : length dummies < 2 ^ 30
