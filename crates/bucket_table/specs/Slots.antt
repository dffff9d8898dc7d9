-- The content of rows: pairs of a key and its objects. A slot without objects is a tombstone.
use Rattle.std.specs.Prelude.{◌≡◌, ℕ, ◌+◌, Bool, true, false, List, [], ◌∷◌, ◌++◌, Option, Some, None, if◌then◌else◌, length, filter}
use Rattle.std.specs.Map.{lookup, set_value}
use Rattle.ets_term.specs.declared.term.Term.{Term}
use Rattle.ets_term.specs.Order.{same}

-- A key with its objects.
abbrev pub Slot : Type 0
Slot = Term × List Term

-- The objects of a key's slot. `None` if the key has no slot.
abbrev pub objects_of : List Slot → Term → Option (List Term)
objects_of slots key = lookup (same key) slots

-- The slots after the objects of a key are replaced.
abbrev pub with_objects : List Slot → Term → List Term → List Slot
with_objects slots key objects = set_value (same key) slots objects

-- The slots after the insertion of a slot at some position. The others keep their order, and the position is not
-- specified.
pub record Enters (old : List Slot) (key : Term) (objects : List Term) (new : List Slot) : Type 0 where
  pub front : List Slot
  pub back : List Slot
  pub before : old ≡ front ++ back
  pub after : new ≡ front ++ (key, objects) ∷ back

-- Whether there are objects: the slot is not a tombstone.
abbrev pub has_objects : List Term → Bool
has_objects [] = false
has_objects (object ∷ objects) = true

-- The slots after the removal of all tombstones.
abbrev pub without_tombstones : List Slot → List Slot
without_tombstones slots = filter (λ slot. has_objects slot.1) slots

-- The slots after that of a key. `None` if the key has no slot.
abbrev pub slots_behind : List Slot → Term → Option (List Slot)
slots_behind [] key = None
slots_behind (slot ∷ slots) key = if same key slot.0 then Some slots else slots_behind slots key

-- The number of objects of all slots.
abbrev pub object_count : List Slot → ℕ
object_count [] = 0
object_count (slot ∷ slots) = length slot.1 + object_count slots
