use Rattle.std.proofs.Common.{◌≡◌, ◌+◌, ◌-◌, arith, rules, drop, take, map}
use Rattle.external_term.specs.Encoding.{encode, char_of}
use Rattle.external_term.proofs.SentPieces.{chars-split, sent-more, sent-fails}
use Rattle.external_term.proofs.sending.send_chars.Goals as goal

pub returns-in_err-send_block-clause-sent : goal.returns-in_err-send_block-clause-sent
returns-in_err-send_block-clause-sent g c =
    let l = c.loop-done in
    let ts = c.args.items.now in
    let n = c.min-count.result in
    let m = l.done + n - l.done in
    let same : m ≡ n = omega arith in
    sent-fails (g.W.Write.contents c.args.out.now) (g.W.Write.contents l.out) (g.W.Write.contents c.send_block.new.out)
    (map char_of (map encode (drop l.done ts))) (map char_of (map encode (take m (drop l.done ts)))) (map char_of (map encode (drop (l.done + n) ts))) (map char_of (map encode ts))
    c.from_residual.result c.from_residual.ensures.0 (chars-split ts l.done m n same) l.invariant.sent c.in_err-send_block.ensures.sent

pub loop-done-preserved : goal.loop-done-preserved
loop-done-preserved g c =
    let l = c.loop-done in
    let ts = c.args.items.now in
    let n = c.min-count.result in
    let m = l.done + n - l.done in
    let same : m ≡ n = omega arith in record {
      within = search (rules, arith);
      room = search rules;
      sent = sent-more (g.W.Write.contents c.args.out.now) (g.W.Write.contents l.out) (g.W.Write.contents c.send_block.new.out)
          (map char_of (map encode (drop l.done ts))) (map char_of (map encode (take m (drop l.done ts)))) (map char_of (map encode (drop (l.done + n) ts))) (map char_of (map encode ts))
          (chars-split ts l.done m n same) l.invariant.sent c.in_ok-send_block.ensures.sent;
    }
