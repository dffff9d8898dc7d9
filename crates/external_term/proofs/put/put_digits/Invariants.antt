use Rattle.std.proofs.Common.{◌≡◌, ◌+◌, ◌-◌, ◌≤◌, ◌++◌, length, vec_len, vec_capacity}
use Rattle.external_term.specs.Encoding.{low_bytes}
use Rattle.external_term.proofs.put.put_digits.Given as goal

abbrev pub invariant-loop-i : goal.invariant-loop-i
invariant-loop-i l = record {
  items : l.out.items ++ low_bytes (16 - l.i) l.left ≡ l.initial.out.items ++ low_bytes 16 l.n;
  room : vec_len l.out + length (low_bytes (16 - l.i) l.left) ≤ vec_capacity l.out;
  capacity : vec_capacity l.initial.out ≤ vec_capacity l.out;
}
