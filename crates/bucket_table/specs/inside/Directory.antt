-- The relation between the directory and the list of nodes.
use Rattle.std.specs.Prelude.{◌≡◌, ◌≢◌, ℕ, ◌%◌, ◌<◌, ◌≤◌, ◌^◌, List, [], ◌∷◌, Option, Some, None, IsSome, length, get_or}
use Rattle.ets_term.specs.declared.term.Term.{Term}
use Rattle.split_key.specs.Keys.{key_of_item, key_of_dummy}
use Rattle.node_list.specs.declared.node.Item.{Item}
use Rattle.node_list.specs.Cells.{Cell, new_cell}
use Rattle.node_list.specs.Places.{from}
use Rattle.bucket_table.specs.Rows.{HasDistinctKeys}
use Rattle.bucket_table.specs.inside.Nodes.{slots_of}

-- The dummy of this bucket is at this place.
pub record IsDummyOf (bucket at : ℕ) (cells : List Cell) : Type 0 where
  pub later : List Cell
  pub is : from at cells ≡ new_cell at (key_of_dummy bucket) None ∷ later

-- The directory has this place for a bucket whose dummy has this split key.
pub record IsInDirectory (directory : List (Option ℕ)) (at key : ℕ) : Type 0 where
  pub bucket : ℕ
  pub below : bucket < length directory
  pub is : key ≡ key_of_dummy bucket
  pub entry : get_or directory bucket None ≡ Some at

-- An item has the split key of its hash, and a dummy is in the directory.
abbrev pub HasSplitKey : (Term → ℕ) → List (Option ℕ) → ℕ → ℕ → Option Item → Type 0
HasSplitKey hash_of directory at key None = IsInDirectory directory at key
HasSplitKey hash_of directory at key (Some item) = key ≡ key_of_item (hash_of item.term)

abbrev pub HaveSplitKeys : (Term → ℕ) → List (Option ℕ) → List Cell → Type 0
HaveSplitKeys hash_of directory [] = Unit {0}
HaveSplitKeys hash_of directory (c ∷ cs) =
    HasSplitKey hash_of directory c.at c.split_key c.item × HaveSplitKeys hash_of directory cs

-- Each place in the directory is that of its bucket's dummy.
abbrev pub DummiesAreListed : List (Option ℕ) → List Cell → Type 0
DummiesAreListed directory cells = (bucket at : ℕ) → get_or directory bucket None ≡ Some at → IsDummyOf bucket at cells

-- The invariant of the directory and the list: the number of buckets is a power of two, at most 2 ^ 20, and bucket 0
-- is ready.
pub record DirectoryInvariant (hash_of : Term → ℕ) (directory : List (Option ℕ)) (cells : List Cell) : Type 0 where
  pub doublings : ℕ
  pub size : length directory ≡ 2 ^ doublings
  pub few : doublings ≤ 20
  pub first : IsSome (get_or directory 0 None)
  pub listed : DummiesAreListed directory cells
  pub placed : HaveSplitKeys hash_of directory cells
  pub distinct : HasDistinctKeys (slots_of cells)

-- A ready bucket and the place of its dummy: the bucket itself if that is ready, and else one before it.
pub record IsNearestReady (directory : List (Option ℕ)) (bucket nearest at : ℕ) : Type 0 where
  pub entry : get_or directory nearest None ≡ Some at
  pub before : key_of_dummy nearest ≤ key_of_dummy bucket
  pub own : IsSome (get_or directory bucket None) → nearest ≡ bucket

-- The place of the dummy of the bucket if that is ready, and else of one before it.
pub record IsStartOf (directory : List (Option ℕ)) (bucket at : ℕ) : Type 0 where
  pub nearest : ℕ
  pub entry : get_or directory nearest None ≡ Some at
  pub before : key_of_dummy nearest ≤ key_of_dummy bucket
  pub own : IsSome (get_or directory bucket None) → nearest ≡ bucket

-- The node at this place has a lesser split key.
pub record HasKeyBelow (key at : ℕ) (cells : List Cell) : Type 0 where
  pub cell : Cell
  pub later : List Cell
  pub is : from at cells ≡ cell ∷ later
  pub below : cell.split_key < key

-- The split key of an item is odd, and that of a dummy is even.
abbrev pub HaveParity : List Cell → Type 0
HaveParity [] = Unit {0}
HaveParity (c ∷ cs) = (c.split_key % 2 ≡ 1 → IsSome c.item) × (c.split_key % 2 ≢ 1 → c.item ≡ None) × HaveParity cs

-- All buckets below this one are ready.
abbrev pub AllReadyBelow : List (Option ℕ) → ℕ → Type 0
AllReadyBelow directory first_unready = (bucket : ℕ) → bucket < first_unready → IsSome (get_or directory bucket None)

-- This is the lowest bucket that is not ready. If all are ready, it is the number of buckets.
pub record IsFirstUnready (directory : List (Option ℕ)) (first_unready : ℕ) : Type 0 where
  pub before : AllReadyBelow directory first_unready
  pub here : first_unready < length directory → get_or directory first_unready None ≡ None
  pub most : first_unready ≤ length directory
