use Rattle.std.proofs.Common.{◌∙◌, sym, ap}
use Rattle.ets_term.specs.Order.{order}
use Rattle.ets_term.specs.laws.Same.{order-exact, order-refl}
use Rattle.ets_term.proofs.term.Term.cmp_terms.Goals as goal

pub returns-clause-equal : goal.returns-clause-equal
returns-clause-equal c = (
  λ h. order-exact _ _ (sym c.cmp.ensures ∙ h),
  λ e. c.cmp.ensures ∙ ap (order c.args.self.now) (sym e) ∙ order-refl c.args.self.now,
)
