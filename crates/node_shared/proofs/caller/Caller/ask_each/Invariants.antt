use Rattle.std.proofs.Common.{◌≡◌, ◌≤◌, ◌++◌, length, vec_capacity}
use Rattle.std.specs.Vec.Iter.{into_iter_items, into_iter_len}
use Rattle.node_shared.specs.Calling.{HasAsked}
use Rattle.node_shared.proofs.caller.Caller.ask_each.Given as goal

abbrev pub invariant-loop-call : goal.invariant-loop-call
invariant-loop-call g l = record {
  all : l.yielded ++ into_iter_items l.call-iterator ≡ l.fn.calls.items;
  len : into_iter_len l.call-iterator ≡ length (into_iter_items l.call-iterator);
  count : length l.replies.items ≡ length l.yielded;
  room : length l.fn.calls.items ≤ vec_capacity l.replies;
  seen : l.self.seen ≡ l.served.history;
  calls_made : HasAsked g.B.HistoryId.limits l.fn.self l.fn.calls.items l.replies.items l.self;
}
