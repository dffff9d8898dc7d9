use Rattle.std.proofs.Common.{◌≡◌, take}
use Rattle.node_list.specs.Ticks.{ticks}
use Rattle.table_ops.specs.Results.{chosen_count}
use Rattle.table_ops.proofs.table_rows.TableRows.count_in.Given as goal

abbrev pub invariant-loop-i : goal.invariant-loop-i
invariant-loop-i g l = record {
  done : l.count ≡ chosen_count (g.P.Predicate.tests l.trial.query.now) (take l.i l.objects);
  looked : l.looks ≡ ticks l.i l.initial.looks;
}
