-- The items of a slab: nodes, and free places, each of which leads to the next.
use Rattle.std.specs.Prelude.{◌≡◌, ℕ, ◌+◌, ◌*◌, ◌-◌, ◌^◌, ◌<◌, ◌≤◌, if◌then◌else◌, Bool, true, List, length, map, Option, Some, None, IsSome, is_some, count_by}
use Rattle.slab.specs.Slab.{Slab, get, slab_len, HasRoomFor}
use Rattle.node_list.specs.declared.node.Item.{Item}
use Rattle.node_list.specs.declared.node.ListNode.{ListNode}
use Rattle.node_list.specs.declared.node.StoredItem.{StoredItem}
use Rattle.node_list.specs.Cells.{Cell}
use Rattle.node_list.specs.inside.PackedHeader.{next_in, is_free}
use Rattle.node_list.specs.inside.Walks.{Links}

-- an item as a node
abbrev pub item_node : ℕ → Option ℕ → Item → ListNode
item_node reversed next item = record { split_key = 2 * reversed + 1; next = next; item = Some item }

-- the node of a stored item
abbrev pub stored_node : StoredItem → ListNode
stored_node s = item_node s.header.reversed (next_in s.header) s.item

-- the node at a place, None at a free place
abbrev pub live_node : Option StoredItem → Option ListNode
live_node None = None
live_node (Some s) = if is_free s.header then None else Some (stored_node s)

-- the nodes of all places
abbrev pub live_nodes : List (Option StoredItem) → List (Option ListNode)
live_nodes slots = map live_node slots

-- the items as a slab of nodes: an item fits each place of the slab, and the spare place
abbrev pub items_view : Slab StoredItem → Bool → Slab ListNode
items_view nodes spare = record {
  slots = live_nodes nodes.slots;
  vacant_key = nodes.vacant_key;
  capacity = slab_len nodes + (if spare then 1 else 0);
}

-- the slab has capacity for one more place, and a link has bits for the place
pub record HasSparePlace (nodes : Slab StoredItem) : Type 0 where
  pub room : HasRoomFor nodes 1
  pub fits : nodes.vacant_key < 2 ^ 30 - 1

abbrev pub free_node : StoredItem → ListNode
free_node s = record { split_key = 0; next = next_in s.header; item = None }

-- a free place, as a node that leads to the next one
abbrev pub free_in : Option StoredItem → Option ListNode
free_in None = None
free_in (Some s) = if is_free s.header then Some (free_node s) else None

-- each free place leads to the next, and the free places are all but `len` places of the slab
pub record IsFreeList (s : Slab StoredItem) (free_head : Option ℕ) (len : ℕ) : Type 0 where
  pub cells : List Cell
  pub links : Links (λ k. free_in (get s k)) free_head cells
  pub count : length cells + len ≡ slab_len s

-- no place from `from` up to `to` has a node
abbrev pub HasNoItemBetween : ℕ → ℕ → Slab StoredItem → Type 0
HasNoItemBetween from to nodes = (k : ℕ) → from ≤ k → k < to → live_node (get nodes k) ≡ None

-- The slab has no place from `end` on, and each place fits a link. Below `first_item_bound` there is no node. There are
-- `len` nodes. If a place is spare, the slab can take it.
pub record ItemsInvariant (nodes : Slab StoredItem) (spare : Bool) (first_item_bound end : ℕ) (free_head : Option ℕ)
    (len : ℕ) : Type 0 where
  pub within : (k : ℕ) → IsSome (get nodes k) → k < end
  pub few : end < 2 ^ 30
  pub below : (k : ℕ) → k < first_item_bound → live_node (get nodes k) ≡ None
  pub counted : count_by is_some (live_nodes nodes.slots) ≡ len
  pub free_list : IsFreeList nodes free_head len
  pub ready : spare ≡ true → HasSparePlace nodes
