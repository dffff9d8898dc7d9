use Rattle.node_core.proofs.pending.Tending.{own-pending-unobserved}
use Rattle.node_core.proofs.node.Node.run_pending_of_dirty_table.Goals as goal

pub returns-clause-observable : goal.returns-clause-observable
returns-clause-observable g c =
    own-pending-unobserved c.args.self.now c.step-done.new.self c.in-Some.due c.in-Some.ensures c.step-done.result c.step-done.ensures.ok c.step-done.ensures.err
