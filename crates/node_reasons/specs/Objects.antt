-- The rules of calls on objects, in the order of the machine: the first that is broken, if one is.
use Rattle.std.specs.Prelude.{ℕ, ◌==◌, if◌then◌else◌, List, [], ◌∷◌, Option, Some, None, is_some}
use Rattle.std.specs.List.{list_all}
use Rattle.ets_term.specs.declared.term.Term.{Term}
use Rattle.ets_term.specs.Data.{data_of}
use Rattle.match_spec.specs.Specifications.{is_pattern, is_spec}
use Rattle.table_ops.specs.declared.kind.Kind.{Kind}
use Rattle.table_ops.specs.Content.{Content, is_object, objects_under}
use Rattle.table_ops.specs.Read.{lookup_element}
use Rattle.fixed_walk.specs.Walk.{next_key}
use Rattle.ets_term.specs.Views.{as_natural}
use Rattle.node_core.specs.rules.Insertion.{objects_in}
use Rattle.node_reasons.specs.declared.reason.Rule.TheVariants as rule
use Rattle.node_reasons.specs.declared.reason.Reason.{Reason}
use Rattle.node_reasons.specs.Reasons.{argument}

-- there are no rules but the access to the table
abbrev pub no_further_rule : Content → Option Reason
no_further_rule content = None

-- insert, insert_new: each term to insert is an object
abbrev pub why_insert : Term → Content → Option Reason
why_insert objects content =
    if list_all (is_object content.keypos) (objects_in objects) then None else Some (argument 2 rule.NotAnObject)

-- delete_object: the second argument is an object
abbrev pub why_delete_object : Term → Content → Option Reason
why_delete_object object content = if is_object content.keypos object then None else Some (argument 2 rule.NotAnObject)

-- next, next_lookup: the key has a slot
abbrev pub why_next : Term → Content → Option Reason
why_next key content = if is_some (next_key content.slots key) then None else Some (argument 2 rule.NoKey)

-- match, match_object, match_delete: the second argument is a pattern
abbrev pub why_match : Term → Content → Option Reason
why_match pattern content = if is_pattern (data_of pattern) then None else Some (argument 2 rule.NotAPattern)

-- select, select_count, select_delete: the second argument is a match specification
abbrev pub why_select : Term → Content → Option Reason
why_select spec content = if is_spec (data_of spec) then None else Some (argument 2 rule.NotASpecification)

-- each object of a key has the element at this position
abbrev pub element : Kind → ℕ → List Term → Option Reason
element kind position objects =
    if is_some (lookup_element kind position objects) then None else Some (argument 3 rule.NoElement)

-- the same, where `missing` is the result if the key has no object
abbrev pub why_element_of_key : Option Reason → Kind → ℕ → List Term → Option Reason
why_element_of_key missing kind position [] = missing
why_element_of_key missing kind position (object ∷ objects) = element kind position (object ∷ objects)

-- the position is one: an integer of at least 1; then as why_element_of_key
abbrev pub why_element_at : Option Reason → List Term → Kind → Option ℕ → Option Reason
why_element_at missing objects kind None = Some (argument 3 rule.NotAPosition)
why_element_at missing objects kind (Some position) =
    if position == 0 then Some (argument 3 rule.NotAPosition) else why_element_of_key missing kind position objects

-- lookup_element: Pos is a position, then the key has an object, then each of these has the element
abbrev pub why_lookup_element : Term → Term → Content → Option Reason
why_lookup_element key position content =
    why_element_at (Some (argument 2 rule.NoKey)) (objects_under content.slots key) content.kind (as_natural position)

-- lookup_element with a default: the key needs no object
abbrev pub why_lookup_element_or : Term → Term → Content → Option Reason
why_lookup_element_or key position content =
    why_element_at None (objects_under content.slots key) content.kind (as_natural position)
