-- The update of elements (stdlib manual, module ets, update_element/3): `{Pos,Value}`, or a list of these.
use Rattle.std.specs.Prelude.{ℕ, ◌+◌, ◌==◌, ◌&&◌, not, nat_lt, nat_le, if◌then◌else◌, Bool, Option, Some, None, Result, Ok, Err, List, [], ◌∷◌, length, map, pos, option_map}
use Rattle.std.specs.List.{list_all}
use Rattle.std.specs.Option.{option_and_then}
use Rattle.std.specs.Result.{result_map_both}
use Rattle.ets_term.specs.declared.term.Term.{Term, out-Term}
use Rattle.ets_term.specs.declared.term.Term.TheOpen.{Term-F}
use Rattle.ets_term.specs.declared.term.Term.TheVariants as term
use Rattle.ets_term.specs.Depth.{elements, is_too_deep}
use Rattle.counters.specs.Positions.{updatable_position}
use Rattle.counters.specs.declared.fault.CounterFault.{CounterFault}
use Rattle.counters.specs.declared.fault.CounterFault.TheVariants.{Badarg, SystemLimit}
use Rattle.counters.specs.declared.elements.ElementSpec.{ElementSpec}
use Rattle.counters.specs.declared.elements.ElementSpecs.{ElementSpecs}
use Rattle.counters.specs.declared.elements.ElementSpecs.TheVariants.{One, Many}

-- the position and value of a pair; None if these are not two elements or the position is not allowed
abbrev pub element_spec_of_parts : ℕ → List Term → Option ElementSpec
element_spec_of_parts keypos (position ∷ value ∷ []) =
    option_map (λ p. record { position = p; value = value }) (updatable_position keypos position)
element_spec_of_parts keypos _ = None

-- the values of a list of pairs; None if one of them is not a pair of an allowed position and a value
abbrev pub all_element_specs : ℕ → List Term → Option (List ElementSpec)
all_element_specs keypos [] = Some []
all_element_specs keypos (term ∷ terms) =
    option_and_then
    (λ first. option_map (λ rest. first ∷ rest) (all_element_specs keypos terms))
    (element_spec_of_parts keypos (elements term))

-- the values that a term gives for elements, by its first level
abbrev pub element_specs_form : ℕ → Term-F Term → Option ElementSpecs
element_specs_form keypos (Term-F.Tuple parts) = option_map One (element_spec_of_parts keypos parts)
element_specs_form keypos (Term-F.List terms) = option_map Many (all_element_specs keypos terms)
element_specs_form keypos _ = None

-- the values that a term gives for elements; None if it has a wrong form
abbrev pub element_specs_of : ℕ → Term → Option ElementSpecs
element_specs_of keypos term = element_specs_form keypos (out-Term term)

-- the values as a list
abbrev pub element_spec_list : ElementSpecs → List ElementSpec
element_spec_list (One spec) = spec ∷ []
element_spec_list (Many specs) = specs

-- whether a tuple of `count` elements has each position
abbrev pub has_all_positions : ℕ → List ElementSpec → Bool
has_all_positions count specs = list_all (λ spec. nat_lt 0 spec.position && nat_le spec.position count) specs

-- the last value given for a position; the element itself if no value is given for it
abbrev pub value_for : List ElementSpec → ℕ → Term → Term
value_for [] position element = element
value_for (spec ∷ specs) position element =
    value_for specs position (if spec.position == position then spec.value else element)

-- these elements, the first of which has this position, each replaced by the last value given for its position
abbrev pub with_values_from : ℕ → List ElementSpec → List Term → List Term
with_values_from position specs [] = []
with_values_from position specs (element ∷ elements) =
    value_for specs position element ∷ with_values_from (position + 1) specs elements

-- the elements of a tuple, each replaced by the last value given for its position
abbrev pub with_values : List ElementSpec → List Term → List Term
with_values specs elements = with_values_from 1 specs elements

-- whether the values alone make an object too deep: all other elements are taken as having depth 1
abbrev pub make_too_deep : List ElementSpec → List Term → Bool
make_too_deep specs elements = is_too_deep (term.Tuple (with_values specs (map (λ element. term.Int (pos 0)) elements)))

-- the new elements; badarg if a position is missing, and then system limit if a value is too deep
abbrev pub write_values : List ElementSpec → List Term → Result (List Term) CounterFault
write_values specs elements =
    if not (has_all_positions (length elements) specs) then Err Badarg
    else if make_too_deep specs elements then Err SystemLimit
    else Ok (with_values specs elements)

-- the new object, by the first level of the old one; badarg if it is not a tuple
abbrev pub apply_elements_form : List ElementSpec → Term-F Term → Result Term CounterFault
apply_elements_form specs (Term-F.Tuple elements) =
    result_map_both term.Tuple (λ fault. fault) (write_values specs elements)
apply_elements_form specs _ = Err Badarg

-- the new object, or why it is refused
abbrev pub apply_elements : ElementSpecs → Term → Result Term CounterFault
apply_elements specs object = apply_elements_form (element_spec_list specs) (out-Term object)
