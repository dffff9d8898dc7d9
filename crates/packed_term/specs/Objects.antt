-- The term of a stored object.
use Rattle.ets_term.specs.declared.term.Term.{Term}
use Rattle.ets_term.specs.declared.term.Term.TheVariants.{Tuple}
use Rattle.packed_term.specs.declared.object.Parts.{Parts}
use Rattle.packed_term.specs.declared.object.Parts.TheVariants.{Pair, Other}

-- the term
abbrev pub object_of : Parts → Term
object_of (Pair parts) = Tuple parts
object_of (Other term) = term
