-- What holds of the content of every table, between calls.
use Rattle.std.specs.Prelude.{◌≡◌, ℕ, ◌≤◌, false, List, Some, length, codes}
use Rattle.std.specs.List.{AllByRecursion, IsDistinct}
use Rattle.ets_term.specs.declared.term.Term.{Term}
use Rattle.ets_term.specs.Atoms.{is_atom}
use Rattle.ets_term.specs.Depth.{is_too_deep}
use Rattle.ets_term.specs.Order.{same}
use Rattle.bucket_table.specs.Slots.{Slot, object_count}
use Rattle.bucket_table.specs.Rows.{HasDistinctKeys}
use Rattle.table_ops.specs.declared.kind.Kind.{Kind}
use Rattle.table_ops.specs.declared.kind.Kind.TheVariants.{Set, Bag, DuplicateBag}
use Rattle.table_ops.specs.Content.{Content, key_of}

-- the object has this key, and is not too deep
pub record IsObjectOfKey (keypos : ℕ) (key object : Term) : Type 0 where
  pub its_key : key_of keypos object ≡ Some key
  pub shallow : is_too_deep object ≡ false

-- a table of this kind may have these objects of one key: a set at most one, and a bag no two equal objects
abbrev pub FitsKind : Kind → List Term → Type 0
FitsKind Set objects = length objects ≤ 1
FitsKind Bag objects = IsDistinct same objects
FitsKind DuplicateBag objects = Unit {0}

-- the invariant of each slot of a table, tombstones included
pub record IsSlot (kind : Kind) (keypos : ℕ) (slot : Slot) : Type 0 where
  pub key : is_atom (codes "$end_of_table") slot.0 ≡ false
  pub stored : AllByRecursion (IsObjectOfKey keypos slot.0) slot.1
  pub kept : FitsKind kind slot.1

-- each slot has the invariant of a slot
abbrev pub AreSlots : Kind → ℕ → List Slot → Type 0
AreSlots kind keypos slots = AllByRecursion (IsSlot kind keypos) slots

-- the invariant of the content of a table
pub record IsContent (content : Content) : Type 0 where
  pub distinct : HasDistinctKeys content.slots
  pub slots : AreSlots content.kind content.keypos content.slots
  pub within : object_count content.slots ≤ content.limit
