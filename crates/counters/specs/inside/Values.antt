-- How the code writes values one after another, and tests their depth.
use Rattle.std.specs.Prelude.{◌-◌, ◌==◌, ◌&&◌, ◌||◌, not, nat_le, Bool, false, List, [], ◌∷◌, slice_set}
use Rattle.std.specs.List.{list_any}
use Rattle.ets_term.specs.declared.term.Term.{Term}
use Rattle.ets_term.specs.Depth.{depth, max_depth}
use Rattle.counters.specs.declared.elements.ElementSpec.{ElementSpec}

-- whether a value is as deep as a whole object may be, and no later value replaces it
abbrev pub too_deep_as_element : List ElementSpec → Bool
too_deep_as_element [] = false
too_deep_as_element (spec ∷ specs) =
    (nat_le max_depth (depth spec.value) && not (list_any (λ later. later.position == spec.position) specs))
    || too_deep_as_element specs

-- the values are written from the left, so the last one for a position stays
abbrev pub write_each : List ElementSpec → List Term → List Term
write_each [] elements = elements
write_each (spec ∷ specs) elements = write_each specs (slice_set elements (spec.position - 1) spec.value)
