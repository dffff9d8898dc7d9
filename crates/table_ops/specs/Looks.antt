-- How many objects a search tests.
use Rattle.std.specs.Prelude.{◌≡◌, ℕ, List, Option, Some, None, Result, OnOk, length}
use Rattle.std.specs.Option.{option_map}
use Rattle.ets_term.specs.declared.term.Term.{Term}
use Rattle.ets_term.specs.Data.{Data, data_of}
use Rattle.ets_term.specs.Trees.{term_of}
use Rattle.node_list.specs.Ticks.{ticks}
use Rattle.bucket_table.specs.Slots.{Slot, object_count}
use Rattle.match_spec.specs.BoundKeys.{bound_key, spec_key}
use Rattle.table_ops.specs.Content.{Content, objects_under}

-- the number of objects that a search tests: those of the bound key, or all if there is no bound key
abbrev pub looks_of : Option Data → List Slot → ℕ
looks_of (Some key) slots = length (objects_under slots (term_of key))
looks_of None slots = object_count slots

-- the same number, with the bound key as a term
abbrev pub looks_of_key : Option Term → List Slot → ℕ
looks_of_key key slots = looks_of (option_map data_of key) slots

-- the number of objects of a table that a search by a pattern tests
abbrev pub looks_of_pattern : Term → Content → ℕ
looks_of_pattern pattern table = looks_of (bound_key table.keypos (data_of pattern)) table.slots

-- the number of objects of a table that a search by a match specification tests
abbrev pub looks_of_spec : Term → Content → ℕ
looks_of_spec spec table = looks_of (spec_key table.keypos (data_of spec)) table.slots

-- if a search is not refused memory, it adds `count` to its counter, which stops at the greatest number of 64 bits
abbrev pub CountsLooks : {X E : Type 0} → Result X E → ℕ → ℕ → ℕ → Type 0
CountsLooks result count old new = OnOk result (new ≡ ticks count old)
