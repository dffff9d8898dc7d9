-- A sweep of all slots, node by node.
use Rattle.std.specs.Prelude.{◌≡◌, ℕ, ◌+◌, ◌<◌, ◌≤◌, true, false, if◌then◌else◌, nat_eq, List, [], ◌∷◌, ◌++◌, length}
use Rattle.node_list.specs.Cells.{Cell}
use Rattle.node_list.specs.Places.{IsPlaceOf, HasItem, cells_after, all_but_first, item_at}
use Rattle.bucket_table.specs.declared.split.sweep.SweepMode.{SweepMode}
use Rattle.bucket_table.specs.declared.split.sweep.SweepMode.TheVariants.{RemoveTombstones, RemoveSlotsWithObjects, MakeAllTombstones}
use Rattle.bucket_table.specs.declared.split.sweep.NodeAction.{NodeAction}
use Rattle.bucket_table.specs.declared.split.sweep.NodeAction.TheVariants.{Keep, Remove, MakeTombstone}
use Rattle.bucket_table.specs.Slots.{Slot, without_tombstones}
use Rattle.bucket_table.specs.Rows.{without_objects}
use Rattle.bucket_table.specs.inside.Nodes.{slots_of, with_slot}

-- The slots after a whole sweep.
abbrev pub after_sweep : SweepMode → List Slot → List Slot
after_sweep RemoveTombstones slots = without_tombstones slots
after_sweep RemoveSlotsWithObjects slots = without_objects false slots
after_sweep MakeAllTombstones slots = without_objects true slots

-- The slot of the item at a place, if there is one.
abbrev pub slot_at : ℕ → List Cell → List Slot
slot_at at cs = with_slot (item_at at cs) []

-- Both lists have the same slots after a sweep, at each place.
abbrev pub HaveSameSweep : SweepMode → List Cell → List Cell → Type 0
HaveSameSweep mode old new = (at : ℕ) → after_sweep mode (slot_at at new) ≡ after_sweep mode (slot_at at old)

-- A sweep of some nodes: it removes items only, and the other nodes remain.
pub record Sweeps (mode : SweepMode) (old new : List Cell) : Type 0 where
  pub alike : HaveSameSweep mode old new
  pub len : length new + length (slots_of old) ≡ length old + length (slots_of new)
  pub fewer : length new ≤ length old

-- The nodes up to the one at a place.
abbrev pub up_to : ℕ → List Cell → List Cell
up_to at [] = []
up_to at (c ∷ cs) = c ∷ (if nat_eq c.at at then [] else up_to at cs)

-- The slots after a sweep of the nodes after a place.
abbrev pub slots_after_sweep : SweepMode → ℕ → List Cell → List Slot
slots_after_sweep mode at cs = slots_of (up_to at cs) ++ after_sweep mode (slots_of (cells_after at cs))

-- One more node is swept.
pub record SweepsNext (mode : SweepMode) (at : ℕ) (old : List Cell) (last : ℕ) (new : List Cell) : Type 0 where
  pub is_place : IsPlaceOf last new
  pub same_end : slots_after_sweep mode last new ≡ slots_after_sweep mode at old
  pub rest : cells_after last new ≡ all_but_first (cells_after at old)
  pub shorter : length (cells_after last new) < length (cells_after at old)

-- What a sweep does to the node at a place. A dummy is kept.
abbrev pub IsActionFor : SweepMode → ℕ → List Cell → NodeAction → Type 0
IsActionFor mode at cs Keep =
    (ss : List Slot) → after_sweep mode (with_slot (item_at at cs) ss) ≡ with_slot (item_at at cs) (after_sweep mode ss)
IsActionFor mode at cs Remove =
    HasItem at cs × ((ss : List Slot) → after_sweep mode (with_slot (item_at at cs) ss) ≡ after_sweep mode ss)
IsActionFor mode at cs MakeTombstone = HasItem at cs × (mode ≡ MakeAllTombstones)
