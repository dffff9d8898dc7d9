-- The invariant of a table's count of objects.
use Rattle.std.specs.Prelude.{◌≡◌, ℕ, ◌≤◌, ◌<◌, ◌^◌, List}
use Rattle.bucket_table.specs.Slots.{Slot, object_count}
use Rattle.table_ops.specs.declared.kind.Kind.{Kind}
use Rattle.table_ops.specs.Invariants.{AreSlots}

pub record IsCounted (kind : Kind) (keypos limit count : ℕ) (slots : List Slot) : Type 0 where
  pub counted : count ≡ object_count slots
  pub within : count ≤ limit
  pub few : limit < 2 ^ 32
  pub slots_are : AreSlots kind keypos slots
