use Rattle.std.proofs.Common.{rules, ◌≡◌, ◌==◌, ◌∷◌, ◌++◌, [], ℕ, List, nat_eq, Some, refl, sym, ap, subst, ◌∙◌, OnErr, OnOk, arith}
use Rattle.std.specs.Map.{lookup}
use Rattle.std.specs.Prelude.{if◌then◌else◌}
use Rattle.std.specs.declared.alloc.Global.{Global}
use Rattle.std.specs.declared.vec.Vec.{Vec}
use Rattle.indexmap.specs.IndexMap.{IndexMap}
use Rattle.ownership.specs.inside.Indices.{InsertsInOrder}
use Rattle.ownership.proofs.Owning.{ids_in, indexed, indexed-either, put-first}
use Rattle.ownership.proofs.indices.Indices.index_owner.Goals as goal

pub returns-in-Some-clause-owners : goal.returns-in-Some-clause-owners
returns-in-Some-clause-owners c =
    let was = ap ids_in c.in-Some.ensures.value in
    let added = indexed-either c.insert_in_order.result (λ q. lookup (λ k. q == k) c.args.self.now.owned.entries) (λ q. lookup (λ k. q == k) (c.get_mut.follows.lender c.insert_in_order.new.ids).entries) c.args.owner c.args.id c.insert_in_order.new.ids
    ((c.get_mut.follows.holds c.insert_in_order.new.ids).3 (search rules)).0
    (omega (arith, c.ranges.id.fits))
    (subst (λ (ids : List ℕ). OnOk c.insert_in_order.result (InsertsInOrder ids c.args.id c.insert_in_order.new.ids.items)) was c.insert_in_order.ensures.ok)
    (subst (λ (ids : List ℕ). OnErr c.insert_in_order.result (c.insert_in_order.new.ids.items ≡ ids)) was c.insert_in_order.ensures.err) in
    record { rest = refl; more = added.more; order = added.order }

pub returns-clause-owners : goal.returns-clause-owners
returns-clause-owners c =
    let first : InsertsInOrder (ids_in (lookup (λ k. c.args.owner == k) c.args.self.now.owned.entries)) c.args.id c.push.new.self.items =
    subst (λ (ids : List ℕ). InsertsInOrder ids c.args.id c.push.new.self.items) (ap ids_in c.in_default.ensures.value) (subst (InsertsInOrder [] c.args.id) (sym (c.in_ok-push.ensures.items ∙ ap (λ xs. xs ++ c.args.id ∷ []) c.new-ids.ensures.items)) (put-first c.args.id)) in
    let added = indexed (λ q. lookup (λ k. q == k) c.args.self.now.owned.entries) (λ q. lookup (λ k. q == k) c.insert.new.self.entries) c.args.owner c.args.id c.push.new.self
    (λ q. c.in_ok-insert.ensures.updates.0 q ∙ ap (λ (m : IndexMap ℕ (Vec ℕ Global) _). if nat_eq c.args.owner q then Some c.push.new.self else lookup (λ k. q == k) m.entries) c.get_mut.follows.holds-at-none)
    first (omega (arith, c.ranges.id.fits)) in
    record { rest = refl; more = added.more; order = added.order }
