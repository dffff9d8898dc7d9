-- The results of the calls of a traversal (stdlib manual, module ets, first/1, next/2, first_lookup/1 and
-- next_lookup/2).
use Rattle.std.specs.Prelude.{List, [], ◌∷◌, Option, Some, None, option_map, if◌then◌else◌}
use Rattle.ets_term.specs.declared.term.Term.{Term}
use Rattle.bucket_table.specs.Slots.{Slot, has_objects, slots_behind}

-- the first key that has objects; None at the end
abbrev pub first_key : List Slot → Option Term
first_key [] = None
first_key (slot ∷ slots) = if has_objects slot.1 then Some slot.0 else first_key slots

-- the first key that has objects after the slot of this key; the outer None if the key has no slot
abbrev pub next_key : List Slot → Term → Option (Option Term)
next_key slots key = option_map first_key (slots_behind slots key)

-- the first slot that has objects; None at the end
abbrev pub first_slot : List Slot → Option Slot
first_slot [] = None
first_slot (slot ∷ slots) = if has_objects slot.1 then Some slot else first_slot slots

-- the first slot that has objects after the slot of this key; the outer None if the key has no slot
abbrev pub next_slot : List Slot → Term → Option (Option Slot)
next_slot slots key = option_map first_slot (slots_behind slots key)
