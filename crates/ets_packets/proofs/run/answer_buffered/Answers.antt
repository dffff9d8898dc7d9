use Rattle.std.proofs.Common.{◌∙◌, ◌+◌, ◌<◌, ◌++◌, arith, ap, length, drop, List, ℕ, sym, subst}
use Rattle.std.proofs.lemmas.List.{length-drop}
use Rattle.std.proofs.lemmas.Result.{err_from_is_err_and}
use Rattle.std.specs.List.{slice_range}
use Rattle.ets_packets.specs.Packets.{IsUnfinished}
use Rattle.ets_packets.specs.inside.Answering.{AnswersPacket, AnswersPackets, BreaksPacket, BreaksPackets}
use Rattle.ets_packets.specs.inside.Buffer.{BeginsTooLong, BeginsWith}
use Rattle.ets_packets.specs.Output.{buffered_bytes, writer_flow}
use Rattle.ets_packets.proofs.BufferedPackets.{length-skipped, one-broken, one-packet, packets-broken, packets-joined, then-skipped, then-unfinished}
use Rattle.ets_packets.proofs.KnownBytes.{between}
use Rattle.ets_packets.proofs.run.answer_buffered.Goals as goal

pub loop-left-init : goal.loop-left-init
loop-left-init g c =
    (λ part is. c.in_ok-left.ensures.ok c.args.most part c.args.responder.now.store is, c.in_ok-left.ensures.all, c.skip_body.ensures.same_writer)

pub returns-in_err-answer_packet-in-Packet-clause-same_writer : goal.returns-in_err-answer_packet-in-Packet-clause-same_writer
returns-in_err-answer_packet-in-Packet-clause-same_writer g c = c.answer_packet.ensures.same_writer ∙ c.loop-left.invariant.2

pub returns-in_err-answer_packet-in-Packet-clause-err : goal.returns-in_err-answer_packet-in-Packet-clause-err
returns-in_err-answer_packet-in-Packet-clause-err g c =
    let l = c.loop-left in
    let len = c.in-Packet.len in
    let most = c.args.most in
    let w0 = g.W.Write.contents c.args.output.now.writer.now in
    let w1 = g.W.Write.contents l.output.writer.now in
    let w2 = g.W.Write.contents c.answer_packet.new.output.writer.now in
    let front = subst (λ (k : List ℕ). BeginsWith most k len) c.bytes.ensures c.in-Packet.ensures in
    let broken = subst (λ (k : List ℕ). BreaksPacket (between w1 w2) (buffered_bytes l.output) (slice_range k 4 (len + 4)) l.responder.store c.answer_packet.new.responder.store) c.bytes-in-Packet.ensures c.in_err-answer_packet-in-Packet.ensures.err in
    let next = one-broken most w1 w2 (buffered_bytes l.output) l.buffer l.responder.store c.answer_packet.new.responder.store len front broken in
    rw (err_from_is_err_and c.from_residual-in_err-answer_packet-in-Packet.result c.from_residual-in_err-answer_packet-in-Packet.ensures.1).1
    (λ part is. packets-broken most w0 w1 w2 (buffered_bytes c.args.output.now) (buffered_bytes l.output) (part ++ c.args.buffer.now) l.buffer l.left c.args.responder.now.store l.responder.store (l.invariant.0 part is) c.loop-left-test.true next)

pub loop-left-smaller-in-Packet : goal.loop-left-smaller-in-Packet
loop-left-smaller-in-Packet g c =
    let l = c.loop-left in
    let len = c.in-Packet.len in
    let front = subst (λ (k : List ℕ). BeginsWith c.args.most k len) c.bytes.ensures c.in-Packet.ensures in
    let within = front.within in
    let smaller : length c.consume.new.self < length l.buffer = omega (arith, ap length c.consume.ensures, length-drop (len + 4) l.buffer, within) in
    smaller

pub loop-left-preserved-in-Packet : goal.loop-left-preserved-in-Packet
loop-left-preserved-in-Packet g c =
    let l = c.loop-left in
    let len = c.in-Packet.len in
    let most = c.args.most in
    let none = c.loop-left-test.true in
    let w0 = g.W.Write.contents c.args.output.now.writer.now in
    let w1 = g.W.Write.contents l.output.writer.now in
    let w2 = g.W.Write.contents c.answer_packet.new.output.writer.now in
    let p0 = buffered_bytes c.args.output.now in
    let p1 = buffered_bytes l.output in
    let p2 = buffered_bytes c.answer_packet.new.output in
    let s1 = l.responder.store in
    let s2 = c.answer_packet.new.responder.store in
    let front = subst (λ (k : List ℕ). BeginsWith most k len) c.bytes.ensures c.in-Packet.ensures in
    let answered = subst (λ (k : List ℕ). AnswersPacket (between w1 w2) p1 p2 (slice_range k 4 (len + 4)) s1 s2) c.bytes-in-Packet.ensures c.in_ok-answer_packet-in-Packet.ensures.ok in
    let next = one-packet most w1 w2 p1 p2 l.buffer l.left s1 s2 len none front answered in (
      λ part is.
          subst (λ (k : List ℕ). AnswersPackets most (between w0 w2) p0 p2 (part ++ c.args.buffer.now) k l.left c.args.responder.now.store s2) (sym c.consume.ensures)
          (packets-joined most w0 w1 w2 p0 p1 p2 (part ++ c.args.buffer.now) l.buffer (drop (len + 4) l.buffer) l.left l.left c.args.responder.now.store s1 s2 (l.invariant.0 part is) none next),
      λ more. absurd (omega (arith, more, none)),
      c.answer_packet.ensures.same_writer ∙ l.invariant.2,
    )

pub returns-in_err-left-in-TooLong-clause-same_writer : goal.returns-in_err-left-in-TooLong-clause-same_writer
returns-in_err-left-in-TooLong-clause-same_writer g c = c.skip_body-in-TooLong.ensures.same_writer ∙ c.loop-left.invariant.2

pub returns-in_err-left-in-TooLong-clause-err : goal.returns-in_err-left-in-TooLong-clause-err
returns-in_err-left-in-TooLong-clause-err g c =
    let l = c.loop-left in
    let len = c.in-TooLong.len in
    let most = c.args.most in
    let w0 = g.W.Write.contents c.args.output.now.writer.now in
    let w1 = g.W.Write.contents l.output.writer.now in
    let w2 = g.W.Write.contents c.skip_body-in-TooLong.new.output.writer.now in
    let p1 = buffered_bytes l.output in
    let front = subst (λ (k : List ℕ). BeginsTooLong most k len) c.bytes.ensures c.in-TooLong.ensures in
    let long = length-skipped most l.buffer len front in
    let next = subst (λ (k : List ℕ). BreaksPackets most (between w1 w2) p1 k l.responder.store) (ap (λ k. long.0 ++ k) c.consume-in-TooLong.ensures ∙ long.2) (c.in_err-left-in-TooLong.ensures.err most long.0 l.responder.store long.1) in
    rw (err_from_is_err_and c.from_residual-in_err-left-in-TooLong.result c.from_residual-in_err-left-in-TooLong.ensures.1).1
    (λ part is. packets-broken most w0 w1 w2 (buffered_bytes c.args.output.now) p1 (part ++ c.args.buffer.now) l.buffer l.left c.args.responder.now.store l.responder.store (l.invariant.0 part is) c.loop-left-test.true next)

pub loop-left-smaller : goal.loop-left-smaller
loop-left-smaller g c =
    let l = c.loop-left in
    let front = subst (λ (k : List ℕ). BeginsTooLong c.args.most k c.in-TooLong.len) c.bytes.ensures c.in-TooLong.ensures in
    let within = front.within in
    let smaller : length c.skip_body-in-TooLong.new.buffer < length l.buffer = omega (arith, c.skip_body-in-TooLong.ensures.fewer, ap length c.consume-in-TooLong.ensures, length-drop 4 l.buffer, within) in
    smaller

pub loop-left-preserved : goal.loop-left-preserved
loop-left-preserved g c =
    let l = c.loop-left in
    let len = c.in-TooLong.len in
    let most = c.args.most in
    let w0 = g.W.Write.contents c.args.output.now.writer.now in
    let w1 = g.W.Write.contents l.output.writer.now in
    let w2 = g.W.Write.contents c.skip_body-in-TooLong.new.output.writer.now in
    let p1 = buffered_bytes l.output in
    let p2 = buffered_bytes c.skip_body-in-TooLong.new.output in
    let rest = c.skip_body-in-TooLong.new.buffer in
    let left = c.in_ok-left-in-TooLong.left in
    let s1 = l.responder.store in
    let front = subst (λ (k : List ℕ). BeginsTooLong most k len) c.bytes.ensures c.in-TooLong.ensures in
    let long = length-skipped most l.buffer len front in
    let next = subst (λ (k : List ℕ). AnswersPackets most (between w1 w2) p1 p2 k rest left s1 s1) (ap (λ k. long.0 ++ k) c.consume-in-TooLong.ensures ∙ long.2) (c.in_ok-left-in-TooLong.ensures.ok most long.0 s1 long.1) in (
      λ part is.
          packets-joined most w0 w1 w2 (buffered_bytes c.args.output.now) p1 p2 (part ++ c.args.buffer.now) l.buffer rest l.left left c.args.responder.now.store s1 s1 (l.invariant.0 part is) c.loop-left-test.true next,
      c.in_ok-left-in-TooLong.ensures.all,
      c.skip_body-in-TooLong.ensures.same_writer ∙ l.invariant.2,
    )

pub returns-in-Incomplete-clause-same_writer : goal.returns-in-Incomplete-clause-same_writer
returns-in-Incomplete-clause-same_writer g c = c.loop-left.invariant.2

pub returns-in-Incomplete-clause-ok : goal.returns-in-Incomplete-clause-ok
returns-in-Incomplete-clause-ok g c =
    let l = c.loop-left in
    λ part is.
    then-unfinished c.args.most (writer_flow g.W.Write.contents c.args.output.now l.output) (buffered_bytes c.args.output.now) (buffered_bytes l.output) (part ++ c.args.buffer.now) l.buffer l.left c.args.responder.now.store l.responder.store
    (l.invariant.0 part is) c.loop-left-test.true (subst IsUnfinished c.bytes.ensures c.in-Incomplete.ensures)

pub returns-clause-same_writer : goal.returns-clause-same_writer
returns-clause-same_writer g c = c.loop-left.invariant.2

pub returns-clause-ok : goal.returns-clause-ok
returns-clause-ok g c =
    let l = c.loop-left in
    let some : 0 < l.left = omega (arith, c.loop-left-test.false) in
    λ part is.
    then-skipped c.args.most (writer_flow g.W.Write.contents c.args.output.now l.output) (buffered_bytes c.args.output.now) (buffered_bytes l.output) (part ++ c.args.buffer.now) l.buffer l.left c.args.responder.now.store l.responder.store
    (l.invariant.0 part is) some (l.invariant.1 some)
