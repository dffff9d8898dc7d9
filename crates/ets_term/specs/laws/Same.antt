-- `same` is true exactly for terms that are built alike: of the same kind, with equal parts.
use Rattle.std.specs.Prelude.{◌≡◌, true}
use Rattle.std.specs.declared.cmp.Ordering.TheVariants.{Equal}
use Rattle.std.specs.Cmp.{Equal-is}
use Rattle.std.proofs.lemmas.Cmp.{tied_itself}
use Rattle.ets_term.specs.declared.term.Term.{Term}
use Rattle.ets_term.specs.Data.{data_of}
use Rattle.ets_term.specs.Order.{order, same}
use Rattle.ets_term.specs.laws.Exact.{data_of-exact}
use Rattle.ets_term.specs.laws.Ordered.{order_total, order_exact}

pub order-exact : (t u : Term) → order t u ≡ Equal → t ≡ u
order-exact t u h = data_of-exact t u (order_exact (data_of t) (data_of u) h)

pub order-refl : (t : Term) → order t t ≡ Equal
order-refl t = tied_itself order_total (data_of t)

pub same-exact : (t u : Term) → same t u ≡ true → t ≡ u
same-exact t u h = order-exact t u ((Equal-is _).0 h)

pub same-refl : (t : Term) → same t t ≡ true
same-refl t = (Equal-is _).1 (order-refl t)
