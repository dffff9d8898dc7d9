-- A term as a tree, for definitions by recursion over two terms.
use Rattle.std.specs.Prelude.{ℕ, ℤ, List, [], ◌∷◌}
use Rattle.ets_term.specs.declared.term.Term.{Term, fold-Term}
use Rattle.ets_term.specs.declared.term.Term.TheOpen.{Term-F}

mutual
  -- the tree of a term
  pub data Data : Type 0 where
    int : ℤ → Data
    atom : List ℕ → Data
    pid : ℕ → Data
    tid : ℕ → Data
    tuple : DataList → Data
    list : DataList → Data
    binary : List ℕ → Data

  -- a list of trees
  pub data DataList : Type 0 where
    no_terms : DataList
    term : Data → DataList → DataList

-- the list of trees as a `DataList`
abbrev pub data_list : List Data → DataList
data_list [] = no_terms
data_list (d ∷ ds) = term d (data_list ds)

-- the tree of a term, from its first level with the trees of the terms inside
abbrev pub data_form : Term-F Data → Data
data_form (Term-F.Int n) = int n
data_form (Term-F.Atom a) = atom a
data_form (Term-F.Pid n) = pid n
data_form (Term-F.Tid n) = tid n
data_form (Term-F.Tuple ds) = tuple (data_list ds)
data_form (Term-F.List ds) = list (data_list ds)
data_form (Term-F.Binary s) = binary s

-- the tree of a term
abbrev pub data_of : Term → Data
data_of = fold-Term Data data_form
