-- The dummies of the buckets of a list.
use Rattle.std.specs.Prelude.{◌≡◌, ℕ, ◌<◌, ◌^◌, List, ◌∷◌, None, length, slice_index, vec_len}
use Rattle.split_key.specs.Keys.{key_of_dummy, IsPowerOfTwo}
use Rattle.node_list.specs.Cells.{Cell, new_cell}
use Rattle.node_list.specs.Places.{from}
use Rattle.bench_layers.specs.declared.lists.BucketedList.{BucketedList}

-- the dummy of this bucket is at this place
pub record IsDummyOf (bucket at : ℕ) (cells : List Cell) : Type 0 where
  pub later : List Cell
  pub is : from at cells ≡ new_cell at (key_of_dummy bucket) None ∷ later

-- each bucket has its dummy at its place in the directory
abbrev pub HasDummies : List ℕ → List Cell → Type 0
HasDummies places cells = (bucket : ℕ) → bucket < length places → IsDummyOf bucket (slice_index places bucket) cells

-- the buckets are a power of two, and each has its dummy
pub record IsReady (l : BucketedList) : Type 0 where
  pub dummies : HasDummies l.dummies.items l.list.cells
  pub power : IsPowerOfTwo (vec_len l.dummies)
  pub few : vec_len l.dummies < 2 ^ 32
