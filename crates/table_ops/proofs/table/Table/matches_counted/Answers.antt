use Rattle.std.proofs.Common.{is_some, subst, option_copied}
use Rattle.ets_term.specs.declared.term.Term.{Term}
use Rattle.table_ops.specs.ContentState.{ContentState}
use Rattle.table_ops.specs.Queries.{bound_in}
use Rattle.table_ops.specs.inside.DeletePlan.{RequiresKey}
use Rattle.table_ops.proofs.BoundKeyLaws.{bindings-require}
use Rattle.table_ops.proofs.table.Table.matches_counted.Goals as goal

pub collect-requires : goal.collect-requires
collect-requires g c =
    let key = c.bound_key-key.result in
    let pattern = c.args.pattern.now in
    rw c.new.ensures (subst (λ (t : ContentState). RequiresKey t.content.keypos (option_copied key) (λ (o : Term). is_some (bound_in pattern o))) c.self.view_is (bindings-require (λ k. k.now) c.self.inside.inner.keypos pattern key c.bound_key-key.ensures.every))
