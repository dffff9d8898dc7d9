-- The terms of a chain, and after a change.
use Rattle.std.specs.Prelude.{ℕ, List, [], ◌∷◌, filter, not}
use Rattle.ets_term.specs.declared.term.Term.{Term}
use Rattle.ets_term.specs.Order.{same}
use Rattle.packed_term.specs.Elements.{with_element}
use Rattle.node_list.specs.declared.chain.Terms.{Terms}
use Rattle.node_list.specs.declared.chain.Terms.TheVariants.{Empty, One, Several}

-- the terms
abbrev pub terms_of : Terms → List Term
terms_of Empty = []
terms_of (One term) = term ∷ []
terms_of (Several terms) = terms.items

-- the terms that do not equal this one
abbrev pub all_but : Term → List Term → List Term
all_but term ts = filter (λ t. not (same t term)) ts

-- the terms with another element in the first one
abbrev pub with_element_in_first : ℕ → Term → List Term → List Term
with_element_in_first index value [] = []
with_element_in_first index value (first ∷ rest) = with_element index value first ∷ rest
