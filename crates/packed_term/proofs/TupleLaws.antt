-- The elements of a tuple, and a tuple with another element.
use Rattle.std.proofs.Common.{rules, ◌≡◌, ℕ, List, slice_set, None}
use Rattle.ets_term.specs.declared.term.Term.{Term, the_lemmas}
use Rattle.ets_term.specs.declared.term.Term.TheVariants.{Tuple}
use Rattle.ets_term.specs.Depth.{elements}
use Rattle.ets_term.specs.Views.{as_int}
use Rattle.packed_term.specs.Elements.{with_element}

pub elements_of : (t : Term) (ts : List Term) → t ≡ Tuple ts → ts ≡ elements t
elements_of t ts is = rw is (search (rules, the_lemmas))

pub set_in : (i : ℕ) (value t : Term) (ts : List Term) → t ≡ Tuple ts → with_element i value t ≡ Tuple (slice_set ts i value)
set_in i value t ts is = rw is (search (rules, the_lemmas))

-- a tuple is no integer
pub not_integer : (t : Term) (ts : List Term) → t ≡ Tuple ts → None ≡ as_int t
not_integer t ts is = rw is (search (rules, the_lemmas))
