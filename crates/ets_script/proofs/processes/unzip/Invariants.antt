use Rattle.std.proofs.Common.{◌≡◌, ◌++◌, length, map}
use Rattle.std.specs.Vec.Iter.{into_iter_items, into_iter_len}
use Rattle.ets_script.proofs.processes.unzip.Given as goal

abbrev pub invariant-loop-worked : goal.invariant-loop-worked
invariant-loop-worked g l = record {
  all : l.yielded ++ into_iter_items l.worked-iterator ≡ l.fn.workers.items;
  len : into_iter_len l.worked-iterator ≡ length (into_iter_items l.worked-iterator);
  clients : l.clients.items ≡ map (λ w. w.client) l.yielded;
  left : l.left.items ≡ map (λ w. w.left) l.yielded;
}
