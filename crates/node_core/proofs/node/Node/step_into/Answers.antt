use Rattle.node_core.proofs.buckets.Steps.{done-observable, done-buckets}
use Rattle.node_core.proofs.node.Node.step_into.Goals as goal

pub returns-in-Ok-clause-ok : goal.returns-in-Ok-clause-ok
returns-in-Ok-clause-ok g c = rw c.prune_pending_tables.ensures (done-observable c.args.self.now c.dispatch-done.new.self c.args.event.now c.dispatch-done.new.reply c.in-Ok.ensures.ok)

pub returns-in-Ok-clause-buckets : goal.returns-in-Ok-clause-buckets
returns-in-Ok-clause-buckets g c = rw c.prune_pending_tables.ensures (done-buckets c.args.self.now c.dispatch-done.new.self c.args.event.now c.dispatch-done.new.reply c.in-Ok.ensures.ok)
