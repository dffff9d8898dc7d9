-- The depth of a term, and the elements of a tuple.
use Rattle.std.specs.Prelude.{ℕ, Bool, nat_lt, ◌+◌, ◌-◌, ◌==◌, if◌then◌else◌, max, List, [], ◌∷◌, Option, None, slice_get, unwrap_or}
use Rattle.ets_term.specs.declared.term.Term.{Term, fold-Term}
use Rattle.ets_term.specs.declared.term.Term.TheOpen.{Term-F}
use Rattle.ets_term.specs.Views.{as_tuple}

-- the largest of some numbers, or 0 for no numbers
abbrev pub largest : List ℕ → ℕ
largest [] = 0
largest (n ∷ ns) = max n (largest ns)

-- the depth, from the depths of the elements: 1 for a term that holds no terms, `{}` and `[]` too, else one more than
-- the depth of the deepest element
abbrev pub depth_form : Term-F ℕ → ℕ
depth_form (Term-F.Tuple ds) = largest ds + 1
depth_form (Term-F.List ds) = largest ds + 1
depth_form _ = 1

-- the depth of a term: its number of levels
abbrev pub depth : Term → ℕ
depth = fold-Term ℕ depth_form

-- the greatest depth of an argument and of a stored object
abbrev pub max_depth : ℕ
max_depth = 128

-- whether a term is deeper than `max_depth`
abbrev pub is_too_deep : Term → Bool
is_too_deep term = nat_lt max_depth (depth term)

-- the elements of a tuple, or no elements for any other term
abbrev pub elements : Term → List Term
elements t = unwrap_or (as_tuple t) []

-- element n of a tuple, counted from 1, None if there is no such element
abbrev pub element_at : ℕ → Term → Option Term
element_at n t = if n == 0 then None else slice_get (elements t) (n - 1)
