-- The term of a tree.
use Rattle.std.specs.Prelude.{List, [], ◌∷◌}
use Rattle.ets_term.specs.declared.term.Term.{Term}
use Rattle.ets_term.specs.declared.term.Term.TheVariants.{Int, Atom, Pid, Tid, Tuple, List as Lst, Binary}
use Rattle.ets_term.specs.Data.{Data, int, atom, pid, tid, tuple, list, binary, DataList, no_terms, term}

-- the term of a tree
abbrev mutual
  pub term_of : Data → Term
  term_of (int n) = Int n
  term_of (atom a) = Atom a
  term_of (pid n) = Pid n
  term_of (tid n) = Tid n
  term_of (tuple ds) = Tuple (terms_of ds)
  term_of (list ds) = Lst (terms_of ds)
  term_of (binary s) = Binary s

  pub terms_of : DataList → List Term
  terms_of no_terms = []
  terms_of (term d ds) = term_of d ∷ terms_of ds
