-- The invariants of the list, the directory and the hints together, and what calls do to them.
use Rattle.std.specs.Prelude.{◌≡◌, ℕ, ◌+◌, ◌-◌, ◌^◌, List, Option, Some, None, MatchOption, length, map, is_some}
use Rattle.std.specs.Map.{lookup}
use Rattle.ets_term.specs.declared.term.Term.{Term}
use Rattle.ets_term.specs.Order.{same}
use Rattle.node_list.specs.Cells.{Cell, new_cell, new_item}
use Rattle.node_list.specs.Changes.{put_cell}
use Rattle.node_list.specs.Places.{IsFresh}
use Rattle.bucket_table.specs.declared.split.tombstone_log.TombstoneLog.{TombstoneLog}
use Rattle.bucket_table.specs.declared.split.index.SplitIndex.{SplitIndex}
use Rattle.bucket_table.specs.Visits.{HasLooked}
use Rattle.bucket_table.specs.SplitRowsState.{SplitRowsState}
use Rattle.bucket_table.specs.inside.Nodes.{slots_of, places_of}
use Rattle.bucket_table.specs.inside.Order.{content_of}
use Rattle.bucket_table.specs.inside.Directory.{IsFirstUnready}
use Rattle.bucket_table.specs.inside.Intervals.{AreSound, ListInvariant}
use Rattle.bucket_table.specs.inside.Search.{IsFound}
use Rattle.bucket_table.specs.inside.TombstoneLog.{LogInvariant}

-- The invariant of a `SplitIndex`: the list and the directory agree, and the current and previous hints are right.
pub record RowsInvariant {H : Type 0} (hash_of : H → Term → ℕ) (index : SplitIndex H) : Type 0 where
  pub rows : ListInvariant (hash_of index.hasher) index.directory index.hints.interval_bits index.hints.current
      index.list.cells
  pub previous : AreSound (2 ^ (index.hints.interval_bits + 1)) index.hints.previous index.list.cells

-- The invariant of `SplitRows`: also the number of slots, the first unready bucket and the tombstone log.
pub record TableInvariant {H : Type 0} (hash_of : H → Term → ℕ) (index : SplitIndex H) (slots first_unready : ℕ)
    (log : TombstoneLog) : Type 0 where
  pub rows : RowsInvariant hash_of index
  pub counted : slots ≡ length (slots_of index.list.cells)
  pub due : IsFirstUnready index.directory first_unready
  pub logged : LogInvariant (hash_of index.hasher) log.overflowed log.hashes.items (slots_of index.list.cells)

-- The model state of an index.
abbrev pub state_of : {H : Type 0} → SplitIndex H → SplitRowsState H
state_of index = record {
  hasher = index.hasher;
  slots = content_of index.list.cells;
  places = places_of index.list.cells;
  room = index.list.capacity - length index.list.cells;
  ready = map is_some index.directory;
}

-- A call changes neither the hasher nor the directory.
pub record KeepsDirectory {H : Type 0} (old new : SplitIndex H) : Type 0 where
  pub hasher : new.hasher ≡ old.hasher
  pub directory : new.directory ≡ old.directory

-- An item with this split key is inserted into these nodes.
pub record InsertsItem (key : ℕ) (term : Term) (chain : List Term) (old new : List Cell) : Type 0 where
  pub at : ℕ
  pub fresh : IsFresh at old
  pub is : new ≡ put_cell (new_cell at key (Some (new_item term chain))) old

-- A search found the item of a key, or that there is none.
abbrev pub FindsItem : {H : Type 0} → SplitIndex H → Term → Option ℕ → Type 0
FindsItem index term result =
    MatchOption result (lookup (same term) (slots_of index.list.cells) ≡ None)
    (λ at. IsFound term at index.list.cells)

-- A search visited a bounded number of nodes.
abbrev pub CountsVisits : {H : Type 0} → (H → Term → ℕ) → SplitIndex H → Term → ℕ → ℕ → Type 0
CountsVisits hash_of index term old new =
    HasLooked (hash_of index.hasher) (slots_of index.list.cells) (map is_some index.directory)
    term old new
