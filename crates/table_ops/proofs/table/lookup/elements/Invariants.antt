use Rattle.std.proofs.Common.{◌≡◌, ◌≤◌, Some, take, length, vec_len, vec_capacity}
use Rattle.table_ops.specs.Read.{elements_at}
use Rattle.table_ops.proofs.table.lookup.elements.Given as goal

abbrev pub invariant-loop-object : goal.invariant-loop-object
invariant-loop-object l = record {
  done : elements_at l.position (take l.object-index l.objects) ≡ Some l.copies.items;
  count : vec_len l.copies ≡ l.object-index;
  room : length l.objects ≤ vec_capacity l.copies;
}
