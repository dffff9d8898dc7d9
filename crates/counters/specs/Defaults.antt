-- The object that a Default makes for a missing key (stdlib manual, module ets, update_counter/4).
use Rattle.std.specs.Prelude.{ℕ, ◌-◌, ◌&&◌, not, nat_lt, nat_le, if◌then◌else◌, Option, Some, None, Result, Ok, Err, length, slice_set, codes}
use Rattle.std.specs.Option.{option_and_then}
use Rattle.ets_term.specs.declared.term.Term.{Term}
use Rattle.ets_term.specs.declared.term.Term.TheVariants as term
use Rattle.ets_term.specs.Atoms.{is_atom}
use Rattle.ets_term.specs.Depth.{is_too_deep}
use Rattle.ets_term.specs.Views.{as_tuple}
use Rattle.counters.specs.Counters as counters
use Rattle.counters.specs.Elements as elements
use Rattle.counters.specs.declared.elements.ElementSpecs.{ElementSpecs}
use Rattle.counters.specs.declared.fault.CounterFault.{CounterFault}
use Rattle.counters.specs.declared.fault.CounterFault.TheVariants.{Badarg, SystemLimit}
use Rattle.counters.specs.declared.ops.Ops.{Ops}

-- the Default with the key at keypos; None if that is not an object
abbrev pub with_key : ℕ → Term → Term → Option Term
with_key keypos key default =
    option_and_then (λ ts.
    if nat_lt 0 keypos && nat_le keypos (length ts) && not (is_atom (codes "$end_of_table") key)
    then Some (term.Tuple (slice_set ts (keypos - 1) key))
    else None) (as_tuple default)

-- a result whose object is deeper than max_depth is refused with system limit
abbrev pub refuse_deep : {X : Type 0} → (X → Term) → Result X CounterFault → Result X CounterFault
refuse_deep object_of (Ok x) = if is_too_deep (object_of x) then Err SystemLimit else Ok x
refuse_deep object_of (Err fault) = Err fault

-- the Default after its counters are updated, and the answer; badarg without a Default that has the key; every test for
-- badarg comes before the limit of depth
abbrev pub start_counter : Ops → Option Term → Result (Term × Term) CounterFault
start_counter ops None = Err Badarg
start_counter ops (Some object) = refuse_deep {X = Term × Term} (λ r. r.0) (counters.apply_ops ops object)

-- the Default after its elements are written; badarg without a Default that has the key
abbrev pub start_elements : ElementSpecs → Option Term → Result Term CounterFault
start_elements specs None = Err Badarg
start_elements specs (Some object) = refuse_deep {X = Term} (λ new. new) (elements.apply_elements specs object)
