-- The slots from one on, in the order of a traversal.
use Rattle.std.specs.Prelude.{ℕ, List, [], ◌∷◌, Option, Some, None, IsSome, if◌then◌else◌}
use Rattle.ets_term.specs.declared.term.Term.{Term}
use Rattle.ets_term.specs.Order.{same}
use Rattle.bucket_table.specs.Slots.{Slot}

-- the slot of a key and all after it
abbrev pub from_key : List Slot → Term → List Slot
from_key [] key = []
from_key (slot ∷ slots) key = if same key slot.0 then slot ∷ slots else from_key slots key

abbrev pub from_key_if_any : List Slot → Option Term → List Slot
from_key_if_any slots None = []
from_key_if_any slots (Some key) = from_key slots key

-- the slot at a place and all after it; no slots if there is no place
abbrev pub slots_from : (ℕ → Option Term) → List Slot → Option ℕ → List Slot
slots_from key_at slots None = []
slots_from key_at slots (Some place) = from_key_if_any slots (key_at place)

-- there is a slot at the place, if there is a place
abbrev pub HasSlotAt : (ℕ → Option Term) → Option ℕ → Type 0
HasSlotAt key_at None = Unit {0}
HasSlotAt key_at (Some place) = IsSome (key_at place)
