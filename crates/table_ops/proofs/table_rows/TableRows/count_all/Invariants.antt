use Rattle.std.proofs.Common.{◌≡◌, ◌+◌, ◌<◌, ◌≤◌, ◌^◌}
use Rattle.bucket_table.specs.Slots.{object_count}
use Rattle.node_list.specs.Ticks.{ticks}
use Rattle.table_ops.specs.Results.{chosen_count}
use Rattle.table_ops.specs.Read.{all_objects}
use Rattle.table_ops.proofs.table_rows.TableRows.count_all.Given as goal

abbrev pub invariant-loop-objects : goal.invariant-loop-objects
invariant-loop-objects g l =
    (goal.iterator-loop-objects g).can_next l.objects-iterator
    × (goal.iterator-loop-objects g).is_finite l.objects-iterator
    × (l.total + chosen_count (g.P.Predicate.tests l.trial.query.now) (all_objects l.objects-iterator) ≡ chosen_count (g.P.Predicate.tests l.trial.query.now) (all_objects (g.R.Rows.slots l.self.rows)))
    × (ticks (object_count l.objects-iterator) l.looks ≡ ticks (object_count (g.R.Rows.slots l.self.rows)) l.fn.looks)
    × (l.looks < 2 ^ 64)
    × (l.fn.looks ≤ l.looks)
