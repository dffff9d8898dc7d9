-- Equality of terms in the other order.
use Rattle.std.proofs.Common.{◌≡◌, Bool, true, false, refl, sym, ap, ◌∙◌, true≢false}
use Rattle.ets_term.specs.declared.term.Term.{Term}
use Rattle.ets_term.specs.Order.{same}
use Rattle.ets_term.specs.laws.Same.{same-exact, same-refl}

turned : (t u : Term) (a b : Bool) → same t u ≡ a → same u t ≡ b → a ≡ b
turned t u true true p q = refl
turned t u false false p q = refl
turned t u true false p q = absurd (true≢false (sym (ap (same u) (same-exact t u p) ∙ same-refl u) ∙ q))
turned t u false true p q = absurd (true≢false (sym (ap (same t) (same-exact u t q) ∙ same-refl t) ∙ p))

pub same-turned : (t u : Term) → same t u ≡ same u t
same-turned t u = turned t u (same t u) (same u t) refl refl
