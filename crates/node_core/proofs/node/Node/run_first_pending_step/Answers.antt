use Rattle.std.proofs.Common.{sym, ◌∙◌}
use Rattle.node_core.proofs.pending.Tending.{pending-unobserved}
use Rattle.node_core.proofs.node.Node.run_first_pending_step.Goals as goal

pub returns-clause-observable : goal.returns-clause-observable
returns-clause-observable g c =
    pending-unobserved c.args.self.now c.step-done.new.self c.in-Some.due (sym c.due.ensures ∙ c.in-Some.is) c.step-done.result c.step-done.ensures.ok c.step-done.ensures.err
