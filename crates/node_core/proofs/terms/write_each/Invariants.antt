use Rattle.std.proofs.Common.{◌≡◌, take, length}
use Rattle.node_core.proofs.terms.write_each.Given as goal

abbrev pub invariant-loop-at : goal.invariant-loop-at
invariant-loop-at l = record {
  copied : take l.at l.terms ≡ take l.at l.objects;
  size : length l.terms ≡ length l.objects;
}
