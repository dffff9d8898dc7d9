use Rattle.std.proofs.Common.{◌≡◌, ◌≤◌, take, vec_len, vec_capacity, length}
use Rattle.node_core.specs.Observable.{observable}
use Rattle.node_core.specs.Machine.{run}
use Rattle.node_core.specs.Buckets.{run_on_buckets}
use Rattle.node_core.proofs.node.Node.run.Given as goal

abbrev pub invariant-loop-event : goal.invariant-loop-event
invariant-loop-event g l = record {
  runs : run (observable l.fn.self) (take l.event-index l.steps) l.replies.items (observable l.self);
  buckets : run_on_buckets l.fn.self (take l.event-index l.steps) l.replies.items l.self;
  room : length l.steps ≤ vec_capacity l.replies;
  count : vec_len l.replies ≡ l.event-index;
}
