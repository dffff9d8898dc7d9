use Rattle.std.proofs.Common.{◌≤◌}
use Rattle.bench_layers.proofs.list.count_found.Given as goal

abbrev pub invariant-loop-i : goal.invariant-loop-i
invariant-loop-i l = l.found ≤ l.i
