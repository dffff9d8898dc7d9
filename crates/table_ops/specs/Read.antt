-- The results of calls that change nothing (stdlib manual, module ets, lookup_element/3 and /4 and tab2list/1).
use Rattle.std.specs.Prelude.{ℕ, ◌==◌, if◌then◌else◌, List, [], ◌∷◌, Option, Some, None, option_map, flat_map}
use Rattle.std.specs.Option.{option_and_then}
use Rattle.ets_term.specs.declared.term.Term.{Term}
use Rattle.ets_term.specs.declared.term.Term.TheVariants.{List as list_term}
use Rattle.ets_term.specs.Depth.{element_at}
use Rattle.bucket_table.specs.Slots.{Slot}
use Rattle.table_ops.specs.declared.kind.Kind.{Kind}
use Rattle.table_ops.specs.declared.kind.Kind.TheVariants.{Set, Bag, DuplicateBag}

-- all objects, in the order of the slots, and in each slot oldest first
abbrev pub all_objects : List Slot → List Term
all_objects slots = flat_map (λ slot. slot.1) slots

-- the elements at a position of tuples; None if one of the tuples has no such element
abbrev pub elements_at : ℕ → List Term → Option (List Term)
elements_at position [] = Some []
elements_at position (object ∷ objects) =
    option_and_then (λ element.
    option_map (λ others. element ∷ others) (elements_at position objects))
    (element_at position object)

-- the same elements, as a term that is a list
abbrev pub list_at : ℕ → List Term → Option Term
list_at position objects = option_map list_term (elements_at position objects)

-- lookup_element(Table, Key, Position), from the objects of the key: for a set the element, for a bag the list of the
-- elements; None means badarg
abbrev pub lookup_element : Kind → ℕ → List Term → Option Term
lookup_element kind position [] = None
lookup_element Set position (object ∷ objects) = element_at position object
lookup_element Bag position (object ∷ objects) = list_at position (object ∷ objects)
lookup_element DuplicateBag position (object ∷ objects) = list_at position (object ∷ objects)

-- lookup_element(Table, Key, Position, Default): the Default if the key has no object; None means badarg, as for
-- position 0
abbrev pub lookup_element_or : Kind → ℕ → Term → List Term → Option Term
lookup_element_or kind position default [] = if position == 0 then None else Some default
lookup_element_or kind position default (object ∷ objects) = lookup_element kind position (object ∷ objects)
