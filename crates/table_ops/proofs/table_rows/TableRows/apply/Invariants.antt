use Rattle.std.proofs.Common.{◌≡◌, vec_len}
use Rattle.table_ops.specs.inside.DeletePlan.{plan_at, after_plan, AreInOrder}
use Rattle.table_ops.specs.inside.TableRows.{ChangesSlotsOnly}
use Rattle.table_ops.proofs.table_rows.TableRows.apply.Given as goal

abbrev pub invariant-loop-delete : goal.invariant-loop-delete
invariant-loop-delete g l = record {
  rest : after_plan l.hold (plan_at (g.R.Rows.key_at l.self.rows) l.plan.list.items) (g.R.Rows.slots l.self.rows) ≡ after_plan l.hold (plan_at (g.R.Rows.key_at l.initial.self.rows) l.initial.plan.list.items) (g.R.Rows.slots l.initial.self.rows);
  order : AreInOrder (g.R.Rows.slots l.self.rows) (plan_at (g.R.Rows.key_at l.self.rows) l.plan.list.items);
  keeps : ChangesSlotsOnly g.R.Rows.readiness l.initial.self l.self;
}

abbrev pub decreases-loop-delete : goal.decreases-loop-delete
decreases-loop-delete g l = vec_len l.plan.list
