use Rattle.std.proofs.Common.{◌≡◌, refl, subst}
use Rattle.table_ops.specs.Queries.{matches}
use Rattle.fixed_walk.specs.TableState.{after_delete}
use Rattle.node_core.proofs.node.searching.delete_matching.Goals as goal

pub returns : goal.returns
returns g c =
    rw c.in_ok-pattern.ensures.good (refl, subst (λ p. c.match_delete-done.new.self ≡ after_delete (λ _. matches p) c.args.table.now) c.in_ok-pattern.ensures.same c.in_ok-done.ensures.ok)
