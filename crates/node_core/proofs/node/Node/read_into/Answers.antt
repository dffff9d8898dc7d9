use Rattle.std.proofs.Common.{Ok, sym, ap, subst, ◌∙◌}
use Rattle.node_core.specs.CallName.{call_name}
use Rattle.node_core.specs.Calls.{call}
use Rattle.node_core.specs.Reads.{reads_only}
use Rattle.node_core.specs.inside.Refusals.{RefusesEarly, to_reply}
use Rattle.node_core.proofs.calls.ReadCalls.{refusal-reads, reply-reads, refused, not-refused}
use Rattle.node_core.proofs.calls.Worlds.{reply-ok}
use Rattle.node_core.proofs.node.Node.read_into.Goals as goal

pub returns-then-refuse_early-clause-ok : goal.returns-then-refuse_early-clause-ok
returns-then-refuse_early-clause-ok g c =
    refusal-reads c.args.self.now c.args.pid c.args.call.now c.in-Some.name
    (c.in-Some.ensures ∙ ap call_name c.text.ensures.text)
    (sym (ap (reads_only c.in-Some.name) c.as_slice-args.ensures) ∙ (sym c.reads_only.ensures ∙ c.if-not-reads_only.false))
    c.refuse_early.new.reply
    (refused c.args.self.now c.args.pid c.args.call.now.args c.args.reply.now c.refuse_early.new.reply c.refuse_early.result
    (subst (λ args. RefusesEarly c.args.self.now c.args.pid args c.refuse_early.result c.args.reply.now c.refuse_early.new.reply) c.as_slice-args.ensures c.refuse_early.ensures) c.if-refuse_early.true)

pub returns-in-Ok-clause-ok : goal.returns-in-Ok-clause-ok
returns-in-Ok-clause-ok g c =
    let reply = c.write_refusal.new.reply in
    reply-reads c.args.self.now c.args.pid c.args.call.now c.in-Some.name
    (c.in-Some.ensures ∙ ap call_name c.text.ensures.text)
    (sym (ap (reads_only c.in-Some.name) c.as_slice-args.ensures) ∙ (sym c.reads_only.ensures ∙ c.if-not-reads_only.false))
    reply
    (not-refused c.args.self.now c.args.pid c.args.call.now.args c.args.reply.now c.refuse_early.new.reply c.refuse_early.result
    (subst (λ args. RefusesEarly c.args.self.now c.args.pid args c.refuse_early.result c.args.reply.now c.refuse_early.new.reply) c.as_slice-args.ensures c.refuse_early.ensures) c.if-refuse_early.false)
    (subst (λ args. call c.args.self.now c.args.pid c.in-Some.name args reply c.args.self.now) c.as_slice-args.ensures
    (reply-ok (call c.args.self.now c.args.pid c.in-Some.name c.as_slice-args.result.now) c.args.self.now c.args.self.now
    (to_reply (λ _. c.read_call.new.reply) c.in-Some-read_call.result) (Ok reply) c.in-Some-read_call.ensures.1 c.in-Ok.ensures))
