use Rattle.std.proofs.Common.{ap, sym, ◌∙◌}
use Rattle.std.proofs.lemmas.Slice.Eq.{slice_eq-Decides}
use Rattle.ets_term.specs.Order.{same}
use Rattle.ets_term.specs.laws.Same.{same-exact, same-refl}
use Rattle.node_core.proofs.terms.same_terms.Goals as goal

pub returns : goal.returns
returns c = slice_eq-Decides (λ a b. (same-exact a b, λ e. ap (same a) (sym e) ∙ same-refl a)) _ _ _ c.eq.ensures
