-- The elements of a tuple: one of them, and one changed.
use Rattle.std.specs.Prelude.{ℕ, Option, None, List, slice_get, slice_set, if◌then◌else◌, ◌==◌, ◌-◌}
use Rattle.ets_term.specs.declared.term.Term.{Term, out-Term}
use Rattle.ets_term.specs.declared.term.Term.TheOpen.{Term-F}
use Rattle.ets_term.specs.declared.term.Term.TheVariants.{Tuple}

-- element n of some terms, counted from 1, None if there are fewer
abbrev pub nth : ℕ → List Term → Option Term
nth n ts = if n == 0 then None else slice_get ts (n - 1)

-- the term with another element at an index, by the term's first level
abbrev pub with_element_form : ℕ → Term → Term → Term-F Term → Term
with_element_form index value term (Term-F.Tuple elements) = Tuple (slice_set elements index value)
with_element_form index value term _ = term

-- a tuple with another element at an index, counted from 0; the term as it is if it is not a tuple or has no such
-- element
abbrev pub with_element : ℕ → Term → Term → Term
with_element index value term = with_element_form index value term (out-Term term)
