use Rattle.std.proofs.Common.{◌≡◌, ◌≤◌, ◌+◌, ◌++◌, ◌∷◌, [], length, map, vec_len, vec_capacity}
use Rattle.std.specs.Vec.Iter.{into_iter_items, into_iter_len}
use Rattle.test_nodes.proofs.tests.node.walk_among.plan_follower.PlanFollowerOthers.between.Given as goal

abbrev pub invariant-loop-step : goal.invariant-loop-step
invariant-loop-step l = record {
  keys : l.self.keys.items ≡ l.fn.self.keys.items ++ l.last ∷ [];
  handed_in : l.self.handed_in.items ≡ l.fn.self.handed_in.items ++ map (λ s. (length l.fn.self.keys.items, s)) l.yielded;
  len : into_iter_len l.step-iterator ≡ length (into_iter_items l.step-iterator);
  room : vec_len l.self.handed_in + into_iter_len l.step-iterator ≤ vec_capacity l.self.handed_in;
}
