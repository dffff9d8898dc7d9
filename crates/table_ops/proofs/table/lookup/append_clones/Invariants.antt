use Rattle.std.proofs.Common.{◌≡◌, ◌+◌, ◌++◌, take, vec_len, vec_capacity}
use Rattle.table_ops.proofs.table.lookup.append_clones.Given as goal

abbrev pub invariant-loop-object : goal.invariant-loop-object
invariant-loop-object l = record {
  copied : l.copies.items ≡ l.initial.copies.items ++ take l.object-index l.objects;
  len : vec_len l.copies ≡ vec_len l.initial.copies + l.object-index;
  capacity : vec_capacity l.copies ≡ vec_capacity l.initial.copies;
}
