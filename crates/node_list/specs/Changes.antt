-- The list after an insertion, a removal or a change of a chain.
use Rattle.std.specs.Prelude.{ℕ, nat_lt, nat_eq, if◌then◌else◌, List, [], ◌∷◌, Option, None, Some}
use Rattle.ets_term.specs.declared.term.Term.{Term}
use Rattle.node_list.specs.declared.node.Item.{Item}
use Rattle.node_list.specs.Cells.{Cell}

-- the list with a new node after all nodes whose split keys are at most its own
abbrev pub put_cell : Cell → List Cell → List Cell
put_cell x [] = x ∷ []
put_cell x (c ∷ cs) = if nat_lt x.split_key c.split_key then x ∷ c ∷ cs else c ∷ put_cell x cs

-- the list without the node at a place
abbrev pub without : ℕ → List Cell → List Cell
without at [] = []
without at (c ∷ cs) = if nat_eq c.at at then cs else c ∷ without at cs

-- the item with these terms as its chain; a dummy stays a dummy
abbrev pub item_with : Option Item → List Term → Option Item
item_with None w = None
item_with (Some item) w = Some (record item { chain = w })

-- the list after the item at a place gets these terms as its chain
abbrev pub cells_with : ℕ → List Term → List Cell → List Cell
cells_with at w [] = []
cells_with at w (c ∷ cs) = (if nat_eq c.at at then record c { item = item_with c.item w } else c) ∷ cells_with at w cs
