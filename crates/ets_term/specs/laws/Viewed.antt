-- Examples of the views: a term of each kind, and a term of another kind.
use Rattle.std.specs.Prelude.{◌≡◌, pos, [], ◌∷◌, Some, None}
use Rattle.std.proofs.Common.{rules}
use Rattle.ets_term.specs.declared.term.Term.{the_lemmas}
use Rattle.ets_term.specs.declared.term.Term.TheVariants.{Int, Atom, Pid, Tuple, List as Lst}
use Rattle.ets_term.specs.Views.{as_int, as_atom, as_pid, as_tuple, as_list}

pub as_int-of-integer : as_int (Int (pos 7)) ≡ Some (pos 7)
as_int-of-integer = search (rules, the_lemmas)

pub as_int-of-other : as_int (Pid 7) ≡ None
as_int-of-other = search (rules, the_lemmas)

pub as_atom-of-atom : as_atom (Atom (97 ∷ [])) ≡ Some (97 ∷ [])
as_atom-of-atom = search (rules, the_lemmas)

pub as_pid-of-pid : as_pid (Pid 7) ≡ Some 7
as_pid-of-pid = search (rules, the_lemmas)

pub as_tuple-of-tuple : as_tuple (Tuple (Pid 7 ∷ [])) ≡ Some (Pid 7 ∷ [])
as_tuple-of-tuple = search (rules, the_lemmas)

pub as_tuple-of-list : as_tuple (Lst (Pid 7 ∷ [])) ≡ None
as_tuple-of-list = search (rules, the_lemmas)

pub as_list-of-list : as_list (Lst (Pid 7 ∷ [])) ≡ Some (Pid 7 ∷ [])
as_list-of-list = search (rules, the_lemmas)
