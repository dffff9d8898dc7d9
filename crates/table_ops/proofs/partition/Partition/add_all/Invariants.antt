use Rattle.std.proofs.Common.{◌≡◌, take}
use Rattle.node_list.specs.Ticks.{ticks}
use Rattle.table_ops.specs.inside.DeletePlan.{ArePartitioned}
use Rattle.table_ops.proofs.partition.Partition.add_all.Given as goal

abbrev pub invariant-loop-i : goal.invariant-loop-i
invariant-loop-i g l = record {
  partition : ArePartitioned (g.P.Predicate.tests l.trial.query.now) (take l.i l.objects) l.self.removed l.self.kept;
  looked : l.looks ≡ ticks l.i l.initial.looks;
}
