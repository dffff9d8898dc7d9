use Rattle.std.proofs.Common.{◌≡◌, ◌≤◌, ◌+◌, ◌++◌, length, map, drop, vec_len, vec_capacity}
use Rattle.external_term.specs.Encoding.{encode, char_of}
use Rattle.external_term.proofs.writing.append_chars.Given as goal

abbrev pub invariant-loop-item : goal.invariant-loop-item
invariant-loop-item l = record {
  items : l.out.items ++ map char_of (map encode (drop l.item-index l.items)) ≡ l.initial.out.items ++ map char_of (map encode l.items);
  room : vec_len l.out + length (map char_of (map encode (drop l.item-index l.items))) ≤ vec_capacity l.out;
  capacity : vec_capacity l.initial.out ≤ vec_capacity l.out;
}
