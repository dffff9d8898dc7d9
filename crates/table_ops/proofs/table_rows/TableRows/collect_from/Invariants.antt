use Rattle.std.proofs.Common.{◌≡◌, ◌++◌, map, take}
use Rattle.ets_term.specs.Data.{data_of}
use Rattle.node_list.specs.Ticks.{ticks}
use Rattle.std.specs.Prelude.{filter_map}
use Rattle.table_ops.proofs.table_rows.TableRows.collect_from.Given as goal

abbrev pub invariant-loop-object : goal.invariant-loop-object
invariant-loop-object g l = record {
  done : map data_of l.results.items ≡ map data_of l.initial.results.items ++ filter_map (g.P.Projection.projects l.trial.query.now) (take l.object-index l.objects);
  looked : l.looks ≡ ticks l.object-index l.initial.looks;
}
