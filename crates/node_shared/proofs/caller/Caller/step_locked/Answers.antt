use Rattle.std.proofs.Common.{◌≡◌, true, sym, ap, subst, ◌∙◌}
use Rattle.node_core.specs.Woven.{is_step_of}
use Rattle.node_shared.specs.Serving.{CallerState}
use Rattle.node_shared.specs.inside.Steps.{entry_count}
use Rattle.node_shared.proofs.Callers.{own-last}
use Rattle.node_shared.proofs.caller.Caller.step_locked.Goals as goal

pub invariant_of-self-2 : goal.invariant_of-self-2
invariant_of-self-2 g c =
    let did = c.in_ok-reply.ensures in
    let own : is_step_of c.self.inside.writer.pid c.args.event ≡ true = subst (λ (s : CallerState). is_step_of s.own.pid c.args.event ≡ true) (sym c.self.view_is) c.requires.own in (
      c.count-self-inside.ensures ∙ ap entry_count (sym did.seen),
      own-last c.self.inside.writer c.step.new.writer c.args.served.now.history c.step.new.seen c.args.event c.in_ok-reply.reply own did.exact did.own (did.seen ∙ did.step.1),
    )
