-- What a term holds, by its kind. Each view is None for a term of another kind. A `_form` function views the first
-- level of a term.
use Rattle.std.specs.Prelude.{ℕ, ℤ, pos, List, Option, Some, None}
use Rattle.ets_term.specs.declared.term.Term.{Term, out-Term}
use Rattle.ets_term.specs.declared.term.Term.TheOpen.{Term-F}

-- the value of an integer, by its first level
abbrev pub int_form : Term-F Term → Option ℤ
int_form (Term-F.Int n) = Some n
int_form _ = None

-- the value of an integer of at least 0, by its first level
abbrev pub natural_form : Term-F Term → Option ℕ
natural_form (Term-F.Int (pos n)) = Some n
natural_form _ = None

-- the text of an atom, by its first level
abbrev pub atom_form : Term-F Term → Option (List ℕ)
atom_form (Term-F.Atom text) = Some text
atom_form _ = None

-- the number of a pid, by its first level
abbrev pub pid_form : Term-F Term → Option ℕ
pid_form (Term-F.Pid number) = Some number
pid_form _ = None

-- the elements of a tuple, by its first level
abbrev pub tuple_form : Term-F Term → Option (List Term)
tuple_form (Term-F.Tuple elements) = Some elements
tuple_form _ = None

-- the elements of a list, by its first level
abbrev pub list_form : Term-F Term → Option (List Term)
list_form (Term-F.List elements) = Some elements
list_form _ = None

-- the value of an integer
abbrev pub as_int : Term → Option ℤ
as_int term = int_form (out-Term term)

-- the value of an integer of at least 0; None for a negative integer too
abbrev pub as_natural : Term → Option ℕ
as_natural term = natural_form (out-Term term)

-- the text of an atom
abbrev pub as_atom : Term → Option (List ℕ)
as_atom term = atom_form (out-Term term)

-- the number of a pid
abbrev pub as_pid : Term → Option ℕ
as_pid term = pid_form (out-Term term)

-- the elements of a tuple
abbrev pub as_tuple : Term → Option (List Term)
as_tuple term = tuple_form (out-Term term)

-- the elements of a list
abbrev pub as_list : Term → Option (List Term)
as_list term = list_form (out-Term term)
