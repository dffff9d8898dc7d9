use Rattle.std.proofs.Common.{◌≤◌, drop, map, vec_capacity}
use Rattle.ets_term.specs.Encoding.{concat}
use Rattle.external_term.specs.Encoding.{encode}
use Rattle.external_term.specs.inside.Block.{block_bytes}
use Rattle.external_term.proofs.SentPieces.{Sent}
use Rattle.external_term.proofs.sending.+send.Given as goal

abbrev pub invariant-send_items-loop-item : goal.invariant-send_items-loop-item
invariant-send_items-loop-item g l = record {
  room : block_bytes ≤ vec_capacity l.block;
  sent : Sent (g.W.Write.contents l.initial.out) (g.W.Write.contents l.out) (concat (map encode (drop l.item-index l.items))) (concat (map encode l.items));
}
