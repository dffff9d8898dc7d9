use Rattle.std.proofs.Common.{◌≡◌, ◌+◌, ◌++◌, length}
use Rattle.std.specs.Vec.Iter.{into_iter_items, into_iter_len}
use Rattle.node_shared.specs.Working.{DidAll}
use Rattle.node_shared.proofs.workers.run_one.Given as goal

abbrev pub invariant-loop-job : goal.invariant-loop-job
invariant-loop-job g l = record {
  all : l.yielded ++ into_iter_items l.job-iterator ≡ l.fn.jobs.items;
  len : into_iter_len l.job-iterator ≡ length (into_iter_items l.job-iterator);
  count : l.count ≡ length l.fn.jobs.items;
  left : l.left + length l.yielded ≡ length l.fn.jobs.items;
  did : DidAll l.fn.client l.fn.jobs.items l.left l.client;
}
