-- The places of the nodes of a list.
use Rattle.std.specs.Prelude.{◌≡◌, ◌≢◌, ℕ, ◌<◌, ◌≤◌, nat_eq, if◌then◌else◌, List, [], ◌∷◌, Option, Some, None}
use Rattle.node_list.specs.declared.node.Item.{Item}
use Rattle.node_list.specs.Cells.{Cell}

-- no node has this place
abbrev pub IsFresh : ℕ → List Cell → Type 0
IsFresh at [] = Unit {0}
IsFresh at (c ∷ cs) = (c.at ≢ at) × IsFresh at cs

-- no two nodes have the same place
abbrev pub HasDistinctPlaces : List Cell → Type 0
HasDistinctPlaces [] = Unit {0}
HasDistinctPlaces (c ∷ cs) = IsFresh c.at cs × HasDistinctPlaces cs

-- the nodes from the node at a place on
abbrev pub from : ℕ → List Cell → List Cell
from at [] = []
from at (c ∷ cs) = if nat_eq c.at at then c ∷ cs else from at cs

-- a node has this place
pub record IsPlaceOf (at : ℕ) (cells : List Cell) : Type 0 where
  pub cell : Cell
  pub later : List Cell
  pub is : from at cells ≡ cell ∷ later

-- a node has this place, and its split key is at most `split_key`
pub record HasSplitKeyAtMost (split_key at : ℕ) (cells : List Cell) : Type 0 where
  pub cell : Cell
  pub later : List Cell
  pub is : from at cells ≡ cell ∷ later
  pub up_to : cell.split_key ≤ split_key

-- an item has this place
pub record HasItem (at : ℕ) (cells : List Cell) : Type 0 where
  pub cell : Cell
  pub later : List Cell
  pub item : Item
  pub is : from at cells ≡ cell ∷ later
  pub has : cell.item ≡ Some item

-- an item has this place, and no place from `start` up to it has one
pub record IsLeastItem (start at : ℕ) (cells : List Cell) : Type 0 where
  pub has : HasItem at cells
  pub from : start ≤ at
  pub least : (other : ℕ) → HasItem other cells → start ≤ other → at ≤ other

-- the first place from `start` on that has an item, None if there is none
abbrev pub IsNextItem : ℕ → Option ℕ → List Cell → Type 0
IsNextItem start None cells = (other : ℕ) → HasItem other cells → other < start
IsNextItem start (Some at) cells = IsLeastItem start at cells

-- the nodes without the first one
abbrev pub all_but_first : List Cell → List Cell
all_but_first [] = []
all_but_first (c ∷ cs) = cs

-- the nodes after the node at a place
abbrev pub cells_after : ℕ → List Cell → List Cell
cells_after at cells = all_but_first (from at cells)

-- the place of the first node, None if there are no nodes
abbrev pub first_place : List Cell → Option ℕ
first_place [] = None
first_place (c ∷ cs) = Some c.at

-- the place of the node after the node at a place, None if there is none
abbrev pub place_after : ℕ → List Cell → Option ℕ
place_after at cells = first_place (cells_after at cells)

-- the item of the first node, None for a dummy or if there are no nodes
abbrev pub first_item : List Cell → Option Item
first_item [] = None
first_item (c ∷ cs) = c.item

-- the split key of the first node, None if there are no nodes
abbrev pub first_split_key : List Cell → Option ℕ
first_split_key [] = None
first_split_key (c ∷ cs) = Some c.split_key

-- the split key of the node at a place, None if no node has the place
abbrev pub split_key_at : ℕ → List Cell → Option ℕ
split_key_at at cells = first_split_key (from at cells)

-- the item at a place, None for a dummy or if no node has the place
abbrev pub item_at : ℕ → List Cell → Option Item
item_at at cells = first_item (from at cells)
