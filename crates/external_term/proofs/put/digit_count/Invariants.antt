use Rattle.std.proofs.Common.{◌≡◌, ◌+◌, ◌-◌, length}
use Rattle.external_term.specs.Encoding.{low_bytes}
use Rattle.external_term.proofs.put.digit_count.Given as goal

abbrev pub invariant-loop-i : goal.invariant-loop-i
invariant-loop-i l = l.i + length (low_bytes (16 - l.i) l.left) ≡ length (low_bytes 16 l.n)
