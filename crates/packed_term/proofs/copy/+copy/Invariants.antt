use Rattle.std.proofs.Common.{◌≡◌, ◌≤◌, take, length, vec_len, vec_capacity}
use Rattle.packed_term.proofs.copy.+copy.Given as goal

abbrev pub invariant-copy_all-loop-part : goal.invariant-copy_all-loop-part
invariant-copy_all-loop-part l = record {
  copied : l.copies.items ≡ take l.part-index l.parts;
  count : vec_len l.copies ≡ l.part-index;
  room : length l.parts ≤ vec_capacity l.copies;
}
