-- The term of a form, and the bounds of what a form has in place.
use Rattle.std.specs.Prelude.{take, ◌≤◌}
use Rattle.ets_term.specs.Character.{IsAtomText}
use Rattle.ets_term.specs.declared.term.Term.{Term}
use Rattle.ets_term.specs.declared.term.Term.TheVariants.{Int, Atom as AnAtom, Pid as APid, Tid as ATid, Tuple as ATuple, List as AList, Binary as ABinary}
use Rattle.packed_term.specs.declared.form.Form.{Form}
use Rattle.packed_term.specs.declared.form.Form.TheVariants.{Small, Wide, Name, Atom, Pid, Tid, Pair, Triple, Tuple, List as Listed, Short, Binary}

-- the term
abbrev pub term_of : Form → Term
term_of (Small n) = Int n
term_of (Wide b) = Int b.value
term_of (Name len bytes) = AnAtom (take len bytes)
term_of (Atom b) = AnAtom b.value
term_of (Pid n) = APid n
term_of (Tid n) = ATid n
term_of (Pair b) = ATuple b.value
term_of (Triple b) = ATuple b.value
term_of (Tuple b) = ATuple b.value.items
term_of (Listed b) = AList b.value.items
term_of (Short len bytes) = ABinary (take len bytes)
term_of (Binary b) = ABinary b.value.items

-- what is stored in place ends there, and is the text of an atom
abbrev pub FitsIn : Form → Type 0
FitsIn (Name len bytes) = (len ≤ 14) × IsAtomText (take len bytes)
FitsIn (Short len bytes) = len ≤ 14
FitsIn _ = Unit {0}
