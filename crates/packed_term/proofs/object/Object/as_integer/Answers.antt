use Rattle.std.proofs.Common.{◌∙◌, sym, ap}
use Rattle.packed_term.specs.Objects.{object_of}
use Rattle.packed_term.proofs.TupleLaws.{not_integer}
use Rattle.packed_term.proofs.object.Object.as_integer.Goals as goal

pub returns-in-Pair : goal.returns-in-Pair
returns-in-Pair c = not_integer _ _ (sym c.self.view_is ∙ ap object_of c.in-Pair.is)
