use Rattle.node_list.specs.ListState.{HasRoom}
use Rattle.bench_layers.specs.Buckets.{IsReady}
use Rattle.bench_layers.proofs.list.insert.Given as goal

abbrev pub invariant-loop-i : goal.invariant-loop-i
invariant-loop-i l = record { ready : IsReady l.list; room : HasRoom l.list.list l.left }
