use Rattle.std.proofs.Common.{◌≡◌, take, length}
use Rattle.packed_term.proofs.reuse.+reuse.Given as goal

abbrev pub invariant-unpack_all_into-loop-at : goal.invariant-unpack_all_into-loop-at
invariant-unpack_all_into-loop-at l = record {
  copied : take l.at l.target ≡ take l.at l.parts;
  size : length l.target ≡ length l.parts;
}
