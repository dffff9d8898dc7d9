use Rattle.std.proofs.Common.{sym, subst, option_copied}
use Rattle.std.proofs.lemmas.Result.{IfOk-weaker}
use Rattle.table_ops.specs.ContentState.{ContentState}
use Rattle.table_ops.specs.inside.DeletePlan.{RequiresKey}
use Rattle.table_ops.proofs.BoundKeyLaws.{only_key}
use Rattle.table_ops.proofs.QueryLaws.{chosen-below}
use Rattle.table_ops.proofs.table.Table.count_matching.Goals as goal

pub count-requires-clause-only_key : goal.count-requires-clause-only_key
count-requires-clause-only_key g c =
    let choose = g.P.Predicate.tests c.args.trial.now.query.now in
    let only = subst (λ (t : ContentState). RequiresKey t.content.keypos (option_copied c.args.key) choose) (sym c.self.view_is) c.requires in
    only_key choose c.self.inside.inner.keypos (option_copied c.args.key) c.self.inside.inner.kind (g.R.Rows.slots c.self.inside.inner.rows) only c.self.invariant.slots_are

pub returns-clause-few : goal.returns-clause-few
returns-clause-few g c =
    let i = c.self.inside in
    IfOk-weaker c.count.result _ _ (λ n e. chosen-below (g.P.Predicate.tests c.args.trial.now.query.now) i.inner.kind i.inner.keypos i.inner.limit i.count n (g.R.Rows.slots i.inner.rows) c.self.invariant e) c.count.ensures.count
