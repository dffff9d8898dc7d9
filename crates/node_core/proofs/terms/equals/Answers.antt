use Rattle.std.proofs.Common.{ap, sym, ◌∙◌}
use Rattle.ets_term.specs.Order as order
use Rattle.ets_term.specs.laws.Same.{same-exact, same-refl}
use Rattle.node_core.proofs.terms.equals.Goals as goal

pub returns : goal.returns
returns c =
    let a = c.args.term.now in
    let b = c.args.other.now in
    (λ h. same-exact a b (sym c.eq.ensures ∙ h), λ e. c.eq.ensures ∙ ap (order.same a) (sym e) ∙ same-refl a)
