use Rattle.std.proofs.Common.{◌≡◌, ◌≤◌, ◌+◌, ◌++◌, length, map, drop, vec_len, vec_capacity}
use Rattle.ets_term.specs.Encoding.{concat}
use Rattle.external_term.specs.Encoding.{encode}
use Rattle.external_term.proofs.writing.+append.Given as goal

abbrev pub invariant-append_items-loop-item : goal.invariant-append_items-loop-item
invariant-append_items-loop-item l = record {
  items : l.out.items ++ concat (map encode (drop l.item-index l.items)) ≡ l.initial.out.items ++ concat (map encode l.items);
  room : vec_len l.out + length (concat (map encode (drop l.item-index l.items))) ≤ vec_capacity l.out;
  capacity : vec_capacity l.initial.out ≤ vec_capacity l.out;
}
