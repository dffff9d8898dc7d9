use Rattle.std.proofs.Common.{◌∙◌, sym, ap}
use Rattle.ets_term.specs.declared.term.Term.TheVariants.{Tuple}
use Rattle.ets_term.proofs.DataListLaws.{tuples_alike}
use Rattle.packed_term.specs.Objects.{object_of}
use Rattle.packed_term.proofs.object.Object.is_equal.Goals as goal

pub returns-in-Tuple : goal.returns-in-Tuple
returns-in-Tuple c =
    c.are_equal.ensures
    ∙ sym (tuples_alike _ _ _ _ (sym c.self.view_is ∙ ap object_of c.in-Pair.is) (c.in-Tuple.is ∙ ap Tuple (sym c.as_slice.ensures)))
