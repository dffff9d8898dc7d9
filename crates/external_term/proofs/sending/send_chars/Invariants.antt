use Rattle.std.proofs.Common.{◌≤◌, ◌-◌, length, drop, map, vec_capacity}
use Rattle.external_term.specs.Encoding.{encode, char_of}
use Rattle.external_term.specs.inside.Block.{block_bytes}
use Rattle.external_term.proofs.SentPieces.{Sent}
use Rattle.external_term.proofs.sending.send_chars.Given as goal

abbrev pub invariant-loop-done : goal.invariant-loop-done
invariant-loop-done g l = record {
  within : l.done ≤ length l.items;
  room : block_bytes ≤ vec_capacity l.block;
  sent : Sent (g.W.Write.contents l.initial.out) (g.W.Write.contents l.out) (map char_of (map encode (drop l.done l.items))) (map char_of (map encode l.items));
}

abbrev pub decreases-loop-done : goal.decreases-loop-done
decreases-loop-done g l = length l.items - l.done
