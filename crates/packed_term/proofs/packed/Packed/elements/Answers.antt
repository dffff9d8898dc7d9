use Rattle.std.proofs.Common.{◌∙◌, sym, ap}
use Rattle.ets_term.specs.Depth.{elements}
use Rattle.packed_term.specs.Forms.{term_of}
use Rattle.packed_term.proofs.FormLaws.{no_elements}
use Rattle.packed_term.proofs.TupleLaws.{elements_of}
use Rattle.packed_term.proofs.packed.Packed.elements.Goals as goal

pub returns-in-Pair : goal.returns-in-Pair
returns-in-Pair c = c.deref.ensures ∙ elements_of _ _ (sym c.self.view_is ∙ ap term_of c.in-Pair.is)

pub returns-in-Triple : goal.returns-in-Triple
returns-in-Triple c = c.deref-in-Triple.ensures ∙ elements_of _ _ (sym c.self.view_is ∙ ap term_of c.in-Triple.is)

pub returns-in-Tuple : goal.returns-in-Tuple
returns-in-Tuple c =
    c.as_slice.ensures.value ∙ ap (λ v. v.items) c.deref-in-Tuple.ensures
    ∙ elements_of _ _ (sym c.self.view_is ∙ ap term_of c.in-Tuple.is)

pub returns-in_default : goal.returns-in_default
returns-in_default c =
    no_elements _ c.in_default.not-Pair c.in_default.not-Triple c.in_default.not-Tuple ∙ ap elements c.self.view_is
