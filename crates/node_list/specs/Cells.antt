-- A list of nodes as its callers see it.
use Rattle.std.specs.Prelude.{◌≡◌, ℕ, ◌≤◌, List, [], ◌∷◌, Option, None}
use Rattle.ets_term.specs.declared.term.Term.{Term}
use Rattle.node_list.specs.declared.node.Item.{Item}

-- a node: its place `at`, its split key, and its item (None for a dummy), which has a key `term` and objects `chain`
pub record Cell : Type 0 where
  pub at : ℕ
  pub split_key : ℕ
  pub item : Option Item

-- the node with this place, split key and item
abbrev pub new_cell : ℕ → ℕ → Option Item → Cell
new_cell at split_key item = record { at = at; split_key = split_key; item = item }

-- the item with this key and these objects
abbrev pub new_item : Term → List Term → Item
new_item term chain = record { term = term; chain = chain }

-- the split key of the first node, if there is one, is at least this one
abbrev pub StartsFrom : ℕ → List Cell → Type 0
StartsFrom split_key [] = Unit {0}
StartsFrom split_key (c ∷ cs) = split_key ≤ c.split_key

-- the split keys never fall along the list
abbrev pub Sorted : List Cell → Type 0
Sorted [] = Unit {0}
Sorted (c ∷ cs) = StartsFrom c.split_key cs × Sorted cs

-- the first node is the dummy with split key 0
abbrev pub StartsWithDummy : List Cell → Type 0
StartsWithDummy [] = ⊥
StartsWithDummy (c ∷ cs) = (c.split_key ≡ 0) × (c.item ≡ None)
