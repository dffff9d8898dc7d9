use Rattle.std.proofs.Common.{◌≡◌, ◌-◌, sym, ap, ◌∙◌, unwrap_or, arith, IsSome, subst, refl}
use Rattle.std.specs.FinMap as map
use Rattle.fixed_walk.specs.Fixes.{with_count, fix_count}
use Rattle.fixed_walk.proofs.CountLaws.{inserted, inserted-counted, removed, removed-counted, with_some, with_none, get-lookup}
use Rattle.fixed_walk.proofs.fixes.Fixes.decrement.Goals as goal

pub returns-in-Some : goal.returns-in-Some
returns-in-Some c =
    let written = (c.get_mut.follows.holds (c.count-count.result - 1)).3 (subst (λ o. IsSome o) c.in-Some.ensures.value refl) in
    inserted c.self.inside.counts.entries (c.get_mut.follows.lender (c.count-count.result - 1)).entries c.args.pid _ (λ q. written.0 q)
    ∙ ap (λ m. map.insert m c.args.pid (c.count-count.result - 1)) c.self.view_is
    ∙ with_some c.args.self.now c.args.pid (c.count-count.result - 1) (omega (arith, c.if-count-gt1.true))
    ∙ ap (λ n. with_count c.args.self.now c.args.pid (n - 1)) c.count-count.ensures

pub returns-in_default : goal.returns-in_default
returns-in_default c =
    let zero : c.count-count.result ≡ 0 = c.count-count.ensures ∙ ap (λ m. unwrap_or (map.get m c.args.pid) 0) (sym c.self.view_is) ∙ ap (λ o. unwrap_or o 0) (get-lookup c.self.inside.counts.entries c.args.pid ∙ sym c.in_default.ensures.value) in
    absurd (omega (arith, zero, c.if-count-gt1.true))

pub returns-else-count-gt1 : goal.returns-else-count-gt1
returns-else-count-gt1 c =
    removed c.self.inside.counts.entries c.swap_remove.new.self.entries c.args.pid (λ q. c.swap_remove.ensures.updates.0 q)
    ∙ ap (λ m. map.remove m c.args.pid) c.self.view_is
    ∙ with_none c.args.self.now c.args.pid (fix_count c.args.self.now c.args.pid - 1) (omega (arith, c.if-count-gt1.false, c.count-count.ensures))

pub invariant_of-self : goal.invariant_of-self
invariant_of-self c =
    let written = (c.get_mut.follows.holds (c.count-count.result - 1)).3 (subst (λ o. IsSome o) c.in-Some.ensures.value refl) in
    inserted-counted c.self.inside.counts.entries (c.get_mut.follows.lender (c.count-count.result - 1)).entries c.args.pid (c.count-count.result - 1) (omega (arith, c.if-count-gt1.true)) c.self.invariant (λ q. written.0 q)

pub invariant_of-self-else-count-gt1 : goal.invariant_of-self-else-count-gt1
invariant_of-self-else-count-gt1 c = removed-counted c.self.inside.counts.entries c.swap_remove.new.self.entries c.args.pid c.self.invariant (λ q. c.swap_remove.ensures.updates.0 q)
