-- The update of counters (stdlib manual, module ets, update_counter/3). The operations are done in order, each on the
-- result of the previous operation. All of them are done, or none is.
use Rattle.std.specs.Prelude.{ℕ, ℤ, ◌-◌, ◌==◌, if◌then◌else◌, Bool, Option, Some, None, Result, Ok, Err, List, [], ◌∷◌, slice_get, slice_set, is_some, option_map}
use Rattle.std.specs.List.{list_all}
use Rattle.std.specs.Option.{option_and_then, option_map_or}
use Rattle.ets_term.specs.declared.term.Term.{Term}
use Rattle.ets_term.specs.declared.term.Term.TheVariants as term
use Rattle.ets_term.specs.Integers.{in_range}
use Rattle.ets_term.specs.Views.{as_int, as_tuple}
use Rattle.counters.specs.Sums.{new_value}
use Rattle.counters.specs.declared.fault.CounterFault.{CounterFault}
use Rattle.counters.specs.declared.fault.CounterFault.TheVariants.{Badarg, SystemLimit}
use Rattle.counters.specs.declared.ops.Op.{Op}
use Rattle.counters.specs.declared.ops.Ops.{Ops}
use Rattle.counters.specs.declared.ops.Ops.TheVariants.{One, Many}

-- the integer at a position, counted from 1, of a tuple with these elements; None if there is no integer
abbrev pub integer_at : ℕ → List Term → Option ℤ
integer_at position elements =
    if position == 0 then None else option_and_then as_int (slice_get elements (position - 1))

-- the elements with this integer at a position, and the integer as the answer
abbrev pub with_integer : ℕ → List Term → ℤ → List Term × Term
with_integer position elements n = (slice_set elements (position - 1) (term.Int n), term.Int n)

-- one operation: the new elements and the new value; None if the element is not an integer or the sum is out of range
abbrev pub apply_one : Op → List Term → Option (List Term × Term)
apply_one op elements =
    option_map (with_integer op.position elements)
    (option_and_then (λ value. in_range (new_value op value)) (integer_at op.position elements))

-- all operations in their order: the new elements and the list of new values; None if one of them fails
abbrev pub apply_all : List Op → List Term → Option (List Term × List Term)
apply_all [] elements = Some (elements, [])
apply_all (op ∷ ops) elements =
    option_and_then
    (λ first. option_map (λ rest. (rest.0, first.1 ∷ rest.1)) (apply_all ops first.0))
    (apply_one op elements)

-- the new elements and the answer of an update; None if an operation fails
abbrev pub apply : Ops → List Term → Option (List Term × Term)
apply (One op) elements = apply_one op elements
apply (Many ops) elements = option_map (λ r. (r.0, term.List r.1)) (apply_all ops elements)

-- whether there is an integer at the position of each operation, before the first operation
abbrev pub are_counters : Ops → List Term → Bool
are_counters (One op) elements = is_some (integer_at op.position elements)
are_counters (Many ops) elements = list_all (λ op. is_some (integer_at op.position elements)) ops

-- the new object and the answer, from the new elements and the answer; system limit if there are none
abbrev pub or_limit : Option (List Term × Term) → Result (Term × Term) CounterFault
or_limit None = Err SystemLimit
or_limit (Some r) = Ok (term.Tuple r.0, r.1)

-- the new object and the answer; every test for badarg precedes the limit
abbrev pub apply_to_elements : Ops → List Term → Result (Term × Term) CounterFault
apply_to_elements ops elements =
    if are_counters ops elements
    then or_limit (apply ops elements)
    else Err Badarg

-- the new object and the answer, or why the update is refused; badarg if the object is not a tuple
abbrev pub apply_ops : Ops → Term → Result (Term × Term) CounterFault
apply_ops ops object = option_map_or (apply_to_elements ops) (as_tuple object) (Err Badarg)
