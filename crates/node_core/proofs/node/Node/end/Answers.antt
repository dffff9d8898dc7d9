use Rattle.ownership.specs.End as ends
use Rattle.node_core.specs.State.{State}
use Rattle.node_core.specs.Access.{changes_world}
use Rattle.node_core.specs.inside.Refusals.{refusal_of}
use Rattle.node_core.specs.rules.Replies.{true_reply}
use Rattle.node_core.proofs.pending.Keeping.{end-keeps}
use Rattle.node_core.proofs.calls.Worlds.{changes_world-world-ok, changes_world-world-err, reply-ok}
use Rattle.node_core.proofs.node.Node.end.Goals.{in-Ok, in-Err}
use Rattle.node_core.proofs.node.Node.end.Goals as goal

pub invariant_of-self : goal.invariant_of-self
invariant_of-self g c = end-keeps c.self.inside.pending c.self.inside.world c.end.new.self c.self.invariant c.args.pid c.end.result c.end.ensures

pub returns-clause-ok : goal.returns-clause-ok
returns-clause-ok g c =
    let was : State = record { limits = c.self.inside.limits; world = c.self.inside.world } in
    let new : State = record { limits = c.self.inside.limits; world = c.end.new.self } in
    rw (← c.self.view_is) (elim c.match-end.branch [
      | in-Ok w ↦ rw (w.result-is, w.true_reply.ensures) (changes_world-world-ok was (λ _. true_reply) (ends.End was.world c.args.pid) c.end.new.self tt w.in-Ok.ensures)
      | in-Err w ↦ rw w.result-is (reply-ok (changes_world was (λ _. true_reply) (ends.End was.world c.args.pid)) was new (refusal_of w.in-Err.fault) w.into_reply.result
          (changes_world-world-err was (λ _. true_reply) (ends.End was.world c.args.pid) c.end.new.self w.in-Err.fault w.in-Err.ensures) (rw (← w.refusal_of.ensures) w.into_reply.ensures))
    ])
