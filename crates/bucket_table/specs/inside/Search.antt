-- The result of a search.
use Rattle.std.specs.Prelude.{◌≡◌, ℕ, List, ◌∷◌, Option, Some, None, MatchOption, length, map, is_some}
use Rattle.std.specs.Map.{lookup, remove_entry, set_value}
use Rattle.ets_term.specs.declared.term.Term.{Term}
use Rattle.ets_term.specs.Order.{same}
use Rattle.node_list.specs.declared.node.Item.{Item}
use Rattle.node_list.specs.Cells.{Cell}
use Rattle.node_list.specs.Places.{from, IsPlaceOf}
use Rattle.node_list.specs.Search.{place_of, visited_cells}
use Rattle.node_list.specs.Ticks.{ticks}
use Rattle.node_list.specs.Changes.{without}
use Rattle.node_list.specs.Changes.{cells_with}
use Rattle.split_key.specs.Keys.{key_of_item}
use Rattle.bucket_table.specs.Visits.{HasLooked}
use Rattle.bucket_table.specs.inside.Nodes.{slots_of}

-- The item of a key at a place, and the slots after its removal or after a replacement of its objects.
pub record IsFound (term : Term) (at : ℕ) (cs : List Cell) : Type 0 where
  pub cell : Cell
  pub later : List Cell
  pub item : Item
  pub is : from at cs ≡ cell ∷ later
  pub has : cell.item ≡ Some item
  pub same_term : item.term ≡ term
  pub objects : lookup (same term) (slots_of cs) ≡ Some item.chain
  pub removed : slots_of (without at cs) ≡ remove_entry (same term) (slots_of cs)
  pub replaced : (w : List Term) → slots_of (cells_with at w cs) ≡ set_value (same term) (slots_of cs) w

-- A search for a key from this place finds its item, or that there is none, and visits a bounded number of nodes.
pub record CanStartSearch (hash_of : Term → ℕ) (directory : List (Option ℕ)) (term : Term)
    (start : ℕ) (cs : List Cell) : Type 0 where
  pub is_place : IsPlaceOf start cs
  pub finds : (r : Option ℕ) → r ≡ place_of (key_of_item (hash_of term)) term (from start cs)
      → MatchOption r (lookup (same term) (slots_of cs) ≡ None) (λ at. IsFound term at cs)
  pub looks : (old new : ℕ) → new ≡ ticks (length (visited_cells (key_of_item (hash_of term)) term (from start cs))) old
      → HasLooked hash_of (slots_of cs) (map is_some directory) term old new
