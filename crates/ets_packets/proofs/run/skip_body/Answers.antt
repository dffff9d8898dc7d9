use Rattle.std.proofs.Common.{◌<◌, ◌-◌, ◌++◌, arith, ap, length, List, ℕ, sym, subst}
use Rattle.std.proofs.lemmas.Result.{err_from_is_err_and}
use Rattle.ets_packets.specs.inside.Answering.{AnswersPackets, IsSkipped}
use Rattle.ets_packets.specs.Output.{buffered_bytes}
use Rattle.ets_packets.proofs.BufferedPackets.{all-dropped, body-broken, body-skipped, none-skipped, part-skipped}
use Rattle.ets_packets.proofs.KnownBytes.{between}
use Rattle.ets_packets.proofs.run.skip_body.Goals as goal

pub returns-then-left-eq0-clause-ok : goal.returns-then-left-eq0-clause-ok
returns-then-left-eq0-clause-ok g c =
    λ most part s is. none-skipped most (g.W.Write.contents c.args.output.now.writer.now) (buffered_bytes c.args.output.now) c.args.buffer.now part 0 s (subst (λ (k : ℕ). IsSkipped most part k) c.if-left-eq0.true is)

pub returns-then-len-left-clause-ok : goal.returns-then-len-left-clause-ok
returns-then-len-left-clause-ok g c =
    let w = g.W.Write.contents c.args.output.now.writer.now in
    let p = buffered_bytes c.args.output.now in
    let more = c.args.left - length c.bytes-len.result.now in
    let few = c.if-len-left.true in
    let none = all-dropped c.args.buffer.now c.bytes-len.result.now c.consume.new.self c.bytes-len.ensures c.consume.ensures in
    λ most part s is.
    subst (λ (k : List ℕ). AnswersPackets most (between w w) p p (part ++ c.args.buffer.now) k more s s) (sym none)
    (part-skipped most w p c.args.buffer.now part c.args.left more s is (omega (arith, few)) (omega (arith, few, ap length c.bytes-len.ensures)))

pub returns-in_err-add_reply-clause-err : goal.returns-in_err-add_reply-clause-err
returns-in_err-add_reply-clause-err g c =
    let w1 = g.W.Write.contents c.args.output.now.writer.now in
    let w2 = g.W.Write.contents c.add_reply.new.output.writer.now in
    let some : 0 < c.args.left = omega (arith, c.if-left-eq0.false) in
    rw (err_from_is_err_and c.from_residual.result c.from_residual.ensures.1).1
    (λ most part s is. body-broken most w1 w2 (buffered_bytes c.args.output.now) c.args.buffer.now part c.args.left s is some (omega (arith, c.if-len-left.false, ap length c.bytes-len.ensures)) c.in_err-add_reply.ensures.err)

pub returns-clause-ok : goal.returns-clause-ok
returns-clause-ok g c =
    let w1 = g.W.Write.contents c.args.output.now.writer.now in
    let w2 = g.W.Write.contents c.add_reply.new.output.writer.now in
    let p1 = buffered_bytes c.args.output.now in
    let p2 = buffered_bytes c.add_reply.new.output in
    let some : 0 < c.args.left = omega (arith, c.if-left-eq0.false) in
    λ most part s is.
    subst (λ (k : List ℕ). AnswersPackets most (between w1 w2) p1 p2 (part ++ c.args.buffer.now) k 0 s s) (sym c.consume-2.ensures)
    (body-skipped most w1 w2 p1 p2 c.args.buffer.now part c.args.left s is some (omega (arith, c.if-len-left.false, ap length c.bytes-len.ensures)) c.in_ok-add_reply.ensures.ok)
