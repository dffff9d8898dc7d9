use Rattle.std.proofs.Common.{◌≡◌, ◌≤◌, take, length, vec_capacity}
use Rattle.node_core.proofs.terms.copy_objects.Given as goal

abbrev pub invariant-loop-object : goal.invariant-loop-object
invariant-loop-object l = record {
  copied : l.copies.items ≡ take l.object-index l.objects;
  room : length l.objects ≤ vec_capacity l.copies;
}
