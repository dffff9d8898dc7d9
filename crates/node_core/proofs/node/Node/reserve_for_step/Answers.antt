use Rattle.std.proofs.Common.{sym, ap, ◌∙◌}
use Rattle.node_core.specs.CallName.{call_name}
use Rattle.node_core.proofs.replies.Predicted.{named-suffices}
use Rattle.node_core.proofs.node.Node.reserve_for_step.Goals as goal

pub returns-in-Some : goal.returns-in-Some
returns-in-Some g c =
    rw c.in-Ask.is (named-suffices c.args.self.now c.in-Ask.pid c.in-Ask.call c.in-Some.name c.reserve_for_call.result
    (c.in-Some.ensures ∙ ap call_name c.text.ensures.text) (rw (sym c.as_slice.ensures) c.reserve_for_call.ensures))
