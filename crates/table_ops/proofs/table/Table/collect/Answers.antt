use Rattle.std.proofs.Common.{sym, subst, is_some, option_copied}
use Rattle.ets_term.specs.declared.term.Term.{Term}
use Rattle.table_ops.specs.ContentState.{ContentState}
use Rattle.table_ops.specs.inside.DeletePlan.{RequiresKey}
use Rattle.table_ops.proofs.BoundKeyLaws.{only_key}
use Rattle.table_ops.proofs.table.Table.collect.Goals as goal

pub collect-requires : goal.collect-requires
collect-requires g c =
    let give = g.P.Projection.projects c.args.trial.now.query.now in
    let only = subst (λ (t : ContentState). RequiresKey t.content.keypos (option_copied c.args.key) (λ (o : Term). is_some (give o))) (sym c.self.view_is) c.requires in
    only_key (λ (o : Term). is_some (give o)) c.self.inside.inner.keypos (option_copied c.args.key) c.self.inside.inner.kind (g.R.Rows.slots c.self.inside.inner.rows) only c.self.invariant.slots_are
