use Rattle.std.proofs.Common.{◌∙◌, sym, ap}
use Rattle.packed_term.specs.Objects.{object_of}
use Rattle.packed_term.proofs.TupleLaws.{elements_of}
use Rattle.packed_term.proofs.object.Object.elements.Goals as goal

pub returns-in-Pair : goal.returns-in-Pair
returns-in-Pair c = elements_of _ _ (sym c.self.view_is ∙ ap object_of c.in-Pair.is)
