-- The slots of a list of nodes.
use Rattle.std.specs.Prelude.{ℕ, List, [], ◌∷◌, Option, Some, None}
use Rattle.ets_term.specs.declared.term.Term.{Term}
use Rattle.node_list.specs.declared.node.Item.{Item}
use Rattle.node_list.specs.Cells.{Cell}
use Rattle.bucket_table.specs.Slots.{Slot}

-- The slot of an item before others; a dummy has none.
abbrev pub with_slot : Option Item → List Slot → List Slot
with_slot None slots = slots
with_slot (Some item) slots = (item.term, item.chain) ∷ slots

-- The slots of a list's items, in its order.
abbrev pub slots_of : List Cell → List Slot
slots_of [] = []
slots_of (c ∷ cs) = with_slot c.item (slots_of cs)

-- The place and key of an item before others.
abbrev pub with_place : ℕ → Option Item → List (ℕ × Term) → List (ℕ × Term)
with_place at None places = places
with_place at (Some item) places = (at, item.term) ∷ places

-- The places and keys of a list's items, in its order.
abbrev pub places_of : List Cell → List (ℕ × Term)
places_of [] = []
places_of (c ∷ cs) = with_place c.at c.item (places_of cs)
