-- The list that the links of a slab make. It ties the code to `Cells`.
use Rattle.std.specs.Prelude.{◌≡◌, ℕ, zero, suc, ◌≤◌, ◌⊎◌, nat_lt, if◌then◌else◌, List, [], ◌∷◌, length, Option, Some, None}
use Rattle.slab.specs.Slab.{Slab, get, slab_len}
use Rattle.node_list.specs.declared.node.ListNode.{ListNode}
use Rattle.node_list.specs.Cells.{Cell, Sorted, StartsWithDummy}

abbrev pub cell_of : ℕ → ListNode → Cell
cell_of at node = record { at = at; split_key = node.split_key; item = node.item }

abbrev pub node_of : Cell → Option ℕ → ListNode
node_of c next = record { split_key = c.split_key; next = next; item = c.item }

-- the nodes from a link on, at most `n`
unfoldable pub walk : ℕ → (ℕ → Option ListNode) → Option ℕ → List Cell
walk zero at_place link = []
walk (suc n) at_place None = []
walk (suc n) at_place (Some at) =
    elim (at_place at) [ None ↦ [] | Some node ↦ cell_of at node ∷ walk n at_place node.next ]

-- these cells are the nodes from a link on, to the end
abbrev pub Links : (ℕ → Option ListNode) → Option ℕ → List Cell → Type 0
Links at_place link [] = link ≡ None
Links at_place link (c ∷ cs) =
    (link ≡ Some c.at) × ((next : Option ℕ) × (at_place c.at ≡ Some (node_of c next)) × Links at_place next cs)

-- the nodes from a link on
abbrev pub cells_from : Slab ListNode → Option ℕ → List Cell
cells_from s link = walk (slab_len s) (get s) link

-- the nodes from this link on come to an end
pub record IsLinked (s : Slab ListNode) (link : Option ℕ) : Type 0 where
  pub links : Links (get s) link (cells_from s link)

-- the invariant of a list's slab: the head is at place 0, and all its nodes are in the list
pub record ListInvariant (s : Slab ListNode) : Type 0 where
  pub linked : IsLinked s (Some 0)
  pub sorted : Sorted (cells_from s (Some 0))
  pub first : StartsWithDummy (cells_from s (Some 0))
  pub counted : slab_len s ≡ length (cells_from s (Some 0))

-- the node at a place has at most this split key
pub record NodeHasSplitKeyAtMost (s : Slab ListNode) (at split_key : ℕ) : Type 0 where
  pub node : ListNode
  pub is : get s at ≡ Some node
  pub up_to : node.split_key ≤ split_key

-- the place of the last cell before the first with a greater split key, or else `last`
abbrev pub last_not_above_in : ℕ → ℕ → List Cell → ℕ
last_not_above_in split_key last [] = last
last_not_above_in split_key last (c ∷ cs) =
    if nat_lt split_key c.split_key then last else last_not_above_in split_key c.at cs

-- a node of the list has this place
abbrev pub HasPlace : ℕ → List Cell → Type 0
HasPlace at [] = ⊥
HasPlace at (c ∷ cs) = (c.at ≡ at) ⊎ HasPlace at cs

abbrev pub FirstIsAt : ℕ → List Cell → Type 0
FirstIsAt at [] = ⊥
FirstIsAt at (c ∷ cs) = c.at ≡ at

-- the node at the first place is followed by the node at the second
abbrev pub IsPredecessor : ℕ → ℕ → List Cell → Type 0
IsPredecessor before at [] = ⊥
IsPredecessor before at (c ∷ cs) = ((c.at ≡ before) × FirstIsAt at cs) ⊎ IsPredecessor before at cs
