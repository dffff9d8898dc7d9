-- What holds of the slots of rows, and what the operations of rows do to them.
use Rattle.std.specs.Prelude.{◌≡◌, Bool, true, false, not, List, [], ◌∷◌, None, filter, map}
use Rattle.std.specs.List.{IsDistinct}
use Rattle.std.specs.Map.{remove_entry, keys_of}
use Rattle.ets_term.specs.declared.term.Term.{Term}
use Rattle.ets_term.specs.Order.{same}
use Rattle.bucket_table.specs.Slots.{objects_of, Slot, Enters, has_objects}

-- No key has two slots.
abbrev pub HasDistinctKeys : List Slot → Type 0
HasDistinctKeys slots = IsDistinct same (keys_of slots)

-- The slots after the slot of a key is removed.
abbrev pub without : List Slot → Term → List Slot
without slots key = remove_entry (same key) slots

-- The slots after the insertion of several slots, one after the other.
abbrev pub EnterAll : List Slot → List Slot → List Slot → Type 0
EnterAll old [] new = new ≡ old
EnterAll old (row ∷ rows) new = (next : List Slot) × Enters old row.0 row.1 next × EnterAll next rows new

-- None of the keys of these rows has a slot among these slots.
abbrev pub AreNew : List Slot → List Slot → Type 0
AreNew slots [] = Unit {0}
AreNew slots (row ∷ rows) = (objects_of slots row.0 ≡ None) × AreNew slots rows

-- The slots after the removal of all objects. If `true`, each slot remains as a tombstone; otherwise the slots that
-- had objects are removed.
abbrev pub without_objects : Bool → List Slot → List Slot
without_objects true slots = map (λ slot. (slot.0, [])) slots
without_objects false slots = filter (λ slot. not (has_objects slot.1)) slots
