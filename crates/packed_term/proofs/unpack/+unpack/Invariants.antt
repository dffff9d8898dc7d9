use Rattle.std.proofs.Common.{◌≡◌, ◌≤◌, take, length, vec_len, vec_capacity}
use Rattle.packed_term.proofs.unpack.+unpack.Given as goal

abbrev pub invariant-unpack_all-loop-part : goal.invariant-unpack_all-loop-part
invariant-unpack_all-loop-part l = record {
  unpacked : l.all.items ≡ take l.part-index l.parts;
  count : vec_len l.all ≡ l.part-index;
  room : length l.parts ≤ vec_capacity l.all;
}
