-- The slots of a list of nodes, in the order of their places.
use Rattle.std.specs.Prelude.{ℕ, zero, suc, ◌+◌, max, List, [], ◌∷◌, Option}
use Rattle.node_list.specs.declared.node.Item.{Item}
use Rattle.node_list.specs.Cells.{Cell}
use Rattle.node_list.specs.Places.{item_at}
use Rattle.bucket_table.specs.Slots.{Slot}
use Rattle.bucket_table.specs.inside.Nodes.{with_slot}

-- The slots of the items at this number of places, from `at` on.
abbrev pub slots_from : (ℕ → Option Item) → ℕ → ℕ → List Slot
slots_from item at zero = []
slots_from item at (suc more) = with_slot (item at) (slots_from item (suc at) more)

-- The lowest number above all places.
abbrev pub above : List Cell → ℕ
above [] = 0
above (c ∷ cs) = max (c.at + 1) (above cs)

-- The slots of a list's items, in the order of their places.
abbrev pub content_of : List Cell → List Slot
content_of cells = slots_from (λ at. item_at at cells) 0 (above cells)
