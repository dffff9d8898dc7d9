-- The invariant of the iterator over slots.
use Rattle.std.specs.Prelude.{◌≡◌, ◌<◌, ◌^◌, ℕ, List, Option, Some, IfSome, drop, length, option_map}
use Rattle.ets_term.specs.declared.term.Term.{Term}
use Rattle.bucket_table.specs.Slots.{Slot, objects_of}
use Rattle.bucket_table.specs.Lent.{key_of_ref}
use Rattle.bucket_table.specs.Rows.{HasDistinctKeys}
use Rattle.bucket_table.specs.Walks.{IsFirstPlace}
use Rattle.table_ops.specs.declared.slots.PlacedSlot.{PlacedSlot}

-- the slot is at its place
pub record IsPlaced (key_at : ℕ → Option Term) (slots : List Slot) (slot : PlacedSlot) : Type 0 where
  pub key : key_at slot.place ≡ Some (key_of_ref slot.key)
  pub objects : objects_of slots (key_of_ref slot.key) ≡ Some slot.objects.now

-- the first `passed` slots were yielded, and `next` is the slot after them, if there is one
pub record SlotsInvariant (key_at : ℕ → Option Term) (slots : List Slot)
    (passed : ℕ) (next : Option PlacedSlot) : Type 0 where
  pub distinct : HasDistinctKeys slots
  pub here : IsFirstPlace key_at (drop passed slots) (option_map (λ slot. slot.place) next)
  pub placed : IfSome next (IsPlaced key_at slots)
  pub fits : length slots < 2 ^ 64
