-- The results of patterns and match specifications over the objects of a table, and how many objects are tested (stdlib
-- manual, module ets, match/2, match_object/2, match_delete/2, select/2, select_count/2 and select_delete/2).
use Rattle.std.specs.Prelude.{ℕ, Bool, false, List, Option, is_some, length, filter, filter_map}
use Rattle.std.specs.Option.{option_map, option_map_or}
use Rattle.std.specs.Map.{values_of}
use Rattle.ets_term.specs.declared.term.Term.{Term}
use Rattle.ets_term.specs.Data.{Data, list, data_list, data_of}
use Rattle.match_spec.specs.Patterns.{bindings_of}
use Rattle.match_spec.specs.Specifications.{is_true, result_of}
use Rattle.table_ops.specs.Content.{Content}
use Rattle.table_ops.specs.Read.{all_objects}

-- match: the result for an object is the list of the values of the pattern's variables, in order of their numbers; None
-- if the object does not match
abbrev pub bound_in : Term → Term → Option Data
bound_in pattern object =
    option_map (λ b. list (data_list (values_of b))) (bindings_of (data_of pattern) (data_of object))

-- match_object, match_delete: whether an object matches
abbrev pub matches : Term → Term → Bool
matches pattern object = is_some (bindings_of (data_of pattern) (data_of object))

-- select: the result of the match specification for an object; None if no clause applies
abbrev pub spec_result : Term → Term → Option Data
spec_result spec object = result_of (data_of spec) (data_of object)

-- select_count, select_delete: whether the result for an object is true
abbrev pub is_chosen : Term → Term → Bool
is_chosen spec object = option_map_or is_true (spec_result spec object) false

-- the results of all objects of a table that have one, in the order of its slots
abbrev pub answers_in : (Term → Option Data) → Content → List Data
answers_in give table = filter_map give (all_objects table.slots)

-- the number of chosen objects of a table
abbrev pub chosen_in : (Term → Bool) → Content → ℕ
chosen_in choose table = length (filter choose (all_objects table.slots))
