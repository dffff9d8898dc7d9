use Rattle.std.proofs.Common.{◌≡◌, ◌++◌, take, drop}
use Rattle.bucket_table.specs.Slots.{object_count}
use Rattle.bucket_table.specs.Walks.{IsFirstPlace}
use Rattle.node_list.specs.Ticks.{ticks}
use Rattle.table_ops.specs.Results.{chosen_count}
use Rattle.table_ops.specs.Read.{all_objects}
use Rattle.table_ops.specs.inside.DeletePlan.{plan_at, plan_of}
use Rattle.table_ops.proofs.table_rows.TableRows.plan_all.Given as goal

abbrev pub invariant-loop : goal.invariant-loop
invariant-loop g l = record {
  here : IsFirstPlace (g.R.Rows.key_at l.self.rows) (drop l.counter (g.R.Rows.slots l.self.rows)) l.at;
  done : l.total ≡ chosen_count (g.P.Predicate.tests l.trial.query.now) (all_objects (take l.counter (g.R.Rows.slots l.self.rows)));
  marked : plan_at (g.R.Rows.key_at l.self.rows) l.plan.list.items ≡ plan_at (g.R.Rows.key_at l.self.rows) l.initial.plan.list.items ++ plan_of (g.P.Predicate.tests l.trial.query.now) (take l.counter (g.R.Rows.slots l.self.rows));
  looked : l.looks ≡ ticks (object_count (take l.counter (g.R.Rows.slots l.self.rows))) l.initial.looks;
}
