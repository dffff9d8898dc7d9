-- What a term writes to a hasher, one write after another.
use Rattle.std.specs.Prelude.{ℕ, List, [], ◌∷◌, length}
use Rattle.std.specs.Int.{to_be_bytes, w32, w64}
use Rattle.ets_term.specs.declared.term.Term.{Term, fold-Term}
use Rattle.ets_term.specs.declared.term.Term.TheOpen.{Term-F}
use Rattle.ets_term.specs.Encoding.{concat, integer_bytes}

-- the writes of a term, from the writes of its elements
abbrev pub writes_form : Term-F (List (List ℕ)) → List (List ℕ)
writes_form (Term-F.Int n) = (1 ∷ []) ∷ integer_bytes n ∷ []
writes_form (Term-F.Atom s) = (2 ∷ length s ∷ []) ∷ s ∷ []
writes_form (Term-F.Pid n) = (3 ∷ []) ∷ to_be_bytes w32 n ∷ []
writes_form (Term-F.Tid n) = (4 ∷ []) ∷ to_be_bytes w32 n ∷ []
writes_form (Term-F.Tuple es) = (5 ∷ []) ∷ to_be_bytes w64 (length es) ∷ concat es
writes_form (Term-F.List es) = (6 ∷ []) ∷ to_be_bytes w64 (length es) ∷ concat es
writes_form (Term-F.Binary s) = (7 ∷ []) ∷ to_be_bytes w64 (length s) ∷ s ∷ []

-- the writes of a term, each a list of bytes
abbrev pub writes : Term → List (List ℕ)
writes = fold-Term (List (List ℕ)) writes_form
