use Rattle.std.proofs.Common.{◌≡◌, ◌<◌, ◌≤◌, ◌^◌, ◌++◌, map}
use Rattle.ets_term.specs.Data.{data_of}
use Rattle.bucket_table.specs.Slots.{object_count}
use Rattle.node_list.specs.Ticks.{ticks}
use Rattle.std.specs.Prelude.{filter_map}
use Rattle.table_ops.specs.Read.{all_objects}
use Rattle.table_ops.proofs.table_rows.TableRows.collect_all.Given as goal

abbrev pub invariant-loop-objects : goal.invariant-loop-objects
invariant-loop-objects g l =
    (goal.iterator-loop-objects g).can_next l.objects-iterator
    × (goal.iterator-loop-objects g).is_finite l.objects-iterator
    × (map data_of l.results.items ++ filter_map (g.P.Projection.projects l.trial.query.now) (all_objects l.objects-iterator) ≡ map data_of l.fn.results.items ++ filter_map (g.P.Projection.projects l.trial.query.now) (all_objects (g.R.Rows.slots l.self.rows)))
    × (ticks (object_count l.objects-iterator) l.looks ≡ ticks (object_count (g.R.Rows.slots l.self.rows)) l.fn.looks)
    × (l.looks < 2 ^ 64)
    × (l.fn.looks ≤ l.looks)
