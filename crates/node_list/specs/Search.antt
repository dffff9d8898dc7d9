-- What a search finds, and which nodes it reads.
use Rattle.std.specs.Prelude.{ℕ, Bool, false, nat_lt, nat_eq, ◌&&◌, ◌||◌, if◌then◌else◌, List, [], ◌∷◌, Option, Some, None}
use Rattle.ets_term.specs.declared.term.Term.{Term}
use Rattle.ets_term.specs.Order.{same}
use Rattle.node_list.specs.declared.node.Item.{Item}
use Rattle.node_list.specs.Cells.{Cell}

-- whether there is an item and its key is `term`; a dummy has no item
abbrev pub holds : Term → Option Item → Bool
holds term None = false
holds term (Some item) = same item.term term

-- whether the node is the searched item: its split key is `split_key`, and its item's key is `term`
abbrev pub is_it : ℕ → Term → Cell → Bool
is_it split_key term c = nat_eq c.split_key split_key && holds term c.item

-- the place of the first item with the split key `split_key` and the key `term`, None if there is none
abbrev pub place_of : ℕ → Term → List Cell → Option ℕ
place_of split_key term [] = None
place_of split_key term (c ∷ cs) = if is_it split_key term c then Some c.at else place_of split_key term cs

-- the nodes that the search reads: all up to the searched item or the first node with a greater split key, including
-- that node; all nodes if there is no such node
abbrev pub visited_cells : ℕ → Term → List Cell → List Cell
visited_cells split_key term [] = []
visited_cells split_key term (c ∷ cs) =
    if nat_lt split_key c.split_key || is_it split_key term c then c ∷ [] else c ∷ visited_cells split_key term cs
