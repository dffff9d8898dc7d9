use Rattle.std.proofs.Common.{◌≡◌, ◌≤◌, take, length, vec_len, vec_capacity}
use Rattle.packed_term.proofs.pack.+pack.Given as goal

abbrev pub invariant-pack_all-loop-term : goal.invariant-pack_all-loop-term
invariant-pack_all-loop-term l = record {
  packed : l.all.items ≡ take l.term-index l.terms;
  count : vec_len l.all ≡ l.term-index;
  room : length l.terms ≤ vec_capacity l.all;
}
