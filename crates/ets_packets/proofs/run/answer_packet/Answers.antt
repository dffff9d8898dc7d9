use Rattle.std.proofs.Common.{◌<◌, ◌^◌, ◌∷◌, length, arith, ap, List, ℕ, sym, subst}
use Rattle.ets_packets.specs.Replies.{Answers, packet_reply}
use Rattle.ets_packets.proofs.KnownBytes.{on-ok, on-err}
use Rattle.ets_packets.proofs.run.answer_packet.Goals as goal

pub returns-clause-ok : goal.returns-clause-ok
returns-clause-ok g c =
    let answers = subst (λ (k : List ℕ). Answers c.args.body.now c.args.responder.now.store (packet_reply c.answer-status.result k) c.answer-status.new.store) (sym c.deref.ensures.value) c.answer-status.ensures.answers in
    let few = c.answer-status.ensures.few in
    let fits : length (c.answer-status.result ∷ c.deref.result.now) < 2 ^ 32 = omega (arith, few, ap length c.deref.ensures.value) in
    on-ok c.add_reply.result (λ q. record { reply = packet_reply c.answer-status.result c.deref.result.now; answers = answers; fits = fits; adds = q }) c.add_reply.ensures.ok

pub returns-clause-err : goal.returns-clause-err
returns-clause-err g c =
    let answers = subst (λ (k : List ℕ). Answers c.args.body.now c.args.responder.now.store (packet_reply c.answer-status.result k) c.answer-status.new.store) (sym c.deref.ensures.value) c.answer-status.ensures.answers in
    let few = c.answer-status.ensures.few in
    let fits : length (c.answer-status.result ∷ c.deref.result.now) < 2 ^ 32 = omega (arith, few, ap length c.deref.ensures.value) in
    on-err c.add_reply.result (λ q. record { reply = packet_reply c.answer-status.result c.deref.result.now; answers = answers; fits = fits; breaks = q }) c.add_reply.ensures.err
