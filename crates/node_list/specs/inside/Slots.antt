-- The nodes of a list by place.
use Rattle.std.specs.Prelude.{◌≡◌, ◌≤◌, ◌<◌, ℕ, Bool, List, length, Option, Some, None, IsSome, option_map}
use Rattle.slab.specs.Slab.{Slab, get, with_value}
use Rattle.ets_term.specs.declared.term.Term.{Term}
use Rattle.node_list.specs.declared.node.Item.{Item}
use Rattle.node_list.specs.declared.node.ListNode.{ListNode}
use Rattle.node_list.specs.declared.header.NodeHeader.{NodeHeader}
use Rattle.node_list.specs.Search.{holds}
use Rattle.node_list.specs.inside.PackedHeader.{Fits}

-- the node at a place has this split key and this link
pub record HasHeader (s : Slab ListNode) (at : ℕ) (f : NodeHeader) : Type 0 where
  pub node : ListNode
  pub is : get s at ≡ Some node
  pub key : node.split_key ≡ f.split_key
  pub next : node.next ≡ f.next
  pub fits : Fits f.next

-- the node at a place has another link, and nothing else has changed
pub record ChangesLink (old new : Slab ListNode) (at : ℕ) (next : Option ℕ) : Type 0 where
  pub node : ListNode
  pub was : get old at ≡ Some node
  pub now : new ≡ with_value old at (record node { next = next })

-- the node at a place is an item
pub record HasItemIn (s : Slab ListNode) (at : ℕ) : Type 0 where
  pub node : ListNode
  pub is : get s at ≡ Some node
  pub has : IsSome node.item

-- the node at a place has this item, None for a dummy
pub record HasItemOrNone (s : Slab ListNode) (at : ℕ) (item : Option Item) : Type 0 where
  pub node : ListNode
  pub is : get s at ≡ Some node
  pub shows : node.item ≡ item

-- the node at this place is an item, and no place from `start` up to it has one
pub record IsLeastItemIn (start at : ℕ) (s : Slab ListNode) : Type 0 where
  pub has : HasItemIn s at
  pub from : start ≤ at
  pub least : (other : ℕ) → HasItemIn s other → start ≤ other → at ≤ other

-- the first place from `start` on whose node is an item, None if there is none
abbrev pub IsNextItemIn : ℕ → Option ℕ → Slab ListNode → Type 0
IsNextItemIn start None s = (other : ℕ) → HasItemIn s other → other < start
IsNextItemIn start (Some at) s = IsLeastItemIn start at s

-- the node at a place is an item with this chain
pub record HasChain (s : Slab ListNode) (at : ℕ) (w : List Term) : Type 0 where
  pub node : ListNode
  pub is : get s at ≡ Some node
  pub chain : option_map (λ (i : Item). i.chain) node.item ≡ Some w

-- the node at a place is an item whose chain has this many terms
pub record HasChainLength (s : Slab ListNode) (at count : ℕ) : Type 0 where
  pub node : ListNode
  pub is : get s at ≡ Some node
  pub length : option_map (λ (i : Item). length i.chain) node.item ≡ Some count

-- the answer says whether the node at a place is an item whose key is `term`
pub record HoldsAt (s : Slab ListNode) (at : ℕ) (term : Term) (answer : Bool) : Type 0 where
  pub node : ListNode
  pub is : get s at ≡ Some node
  pub holds : answer ≡ holds term node.item
