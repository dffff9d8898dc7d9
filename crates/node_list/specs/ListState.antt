-- The model state of a `NodeList`.
use Rattle.std.specs.Prelude.{ℕ, ◌+◌, ◌≤◌, List, length, Option, refl}
use Rattle.std.specs.Coded.{Coded, code_by, coded×, coded_ℕ, coded_list, coded_option}
use Rattle.node_list.specs.Cells.{Cell}
use Rattle.node_list.specs.declared.node.Item.{Item}
use Rattle.node_list.specs.contracts.node.Item as item

-- the nodes in order, and how many fit without allocation
pub record ListState : Type 0 where
  pub cells : List Cell
  pub capacity : ℕ

-- this many more nodes fit
abbrev pub HasRoom : ListState → ℕ → Type 0
HasRoom l more = length l.cells + more ≤ l.capacity

-- the code of a node, as a tuple of its fields
abbrev pub cell_code : Coded Cell
cell_code =
    code_by
    (ℕ × (ℕ × Option Item))
    (coded× coded_ℕ (coded× coded_ℕ (coded_option item.the_row.coded)))
    (λ c. (c.at, (c.split_key, c.item)))
    (λ p. record { at = p.0; split_key = p.1.0; item = p.1.1 })
    (λ _. refl)

-- the code of a list, as a tuple of its fields
abbrev pub list_state_code : Coded ListState
list_state_code =
    code_by
    (List Cell × ℕ)
    (coded× (coded_list cell_code) coded_ℕ)
    (λ l. (l.cells, l.capacity))
    (λ p. record { cells = p.0; capacity = p.1 })
    (λ _. refl)
