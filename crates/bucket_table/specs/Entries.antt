-- The slot of a key or of a place.
use Rattle.std.specs.Prelude.{◌≡◌, ℕ, List, [], ◌∷◌, Option, Some, None, IsSome, unwrap_or}
use Rattle.ets_term.specs.declared.term.Term.{Term}
use Rattle.bucket_table.specs.declared.entry.SlotEntry.{SlotEntry}
use Rattle.bucket_table.specs.declared.entry.SlotEntry.TheVariants.{Occupied, Vacant}
use Rattle.node_list.specs.Chains.{with_element_in_first}
use Rattle.bucket_table.specs.Slots.{Slot, objects_of, with_objects}

-- The result of a search for an insertion: the place of the key's slot, or the hash of a key without a slot.
abbrev pub IsEntry : List Slot → (Term → ℕ) → (ℕ → Option Term) → Term → SlotEntry → Type 0
IsEntry slots hash_of key_at key (Occupied place) = (key_at place ≡ Some key) × IsSome (objects_of slots key)
IsEntry slots hash_of key_at key (Vacant hash) = (objects_of slots key ≡ None) × (hash ≡ hash_of key)

-- The objects of the slot at a place, given its key. `None` if there is no slot.
abbrev pub objects_in : List Slot → Option Term → Option (List Term)
objects_in slots None = None
objects_in slots (Some key) = objects_of slots key

-- The slots after the objects of the slot at a place are replaced, given its key.
abbrev pub with_objects_in : List Slot → Option Term → List Term → List Slot
with_objects_in slots None objects = slots
with_objects_in slots (Some key) objects = with_objects slots key objects

-- The slot at a place has one object, given its key.
abbrev pub HasOneObject : List Slot → Option Term → Type 0
HasOneObject slots key = (object : Term) × (objects_in slots key ≡ Some (object ∷ []))

-- The slots after an element is set in the first object of the slot at a place, given its key. The element is counted
-- from 0.
abbrev pub with_element_in : List Slot → Option Term → ℕ → Term → List Slot
with_element_in slots key index value =
    with_objects_in slots key (with_element_in_first index value (unwrap_or (objects_in slots key) []))
