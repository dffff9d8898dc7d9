use Rattle.node_core.proofs.replies.Predicted.{updates-suffices}
use Rattle.node_core.proofs.node.Node.reserve_for_call.Goals as goal

pub returns-in-len3 : goal.returns-in-len3
returns-in-len3 g c = updates-suffices c.args.self.now c.args.pid c.args.name c.args.args.now c.updates-item.result c.reserve_for_updates.result c.in-len3.len_at_least c.in-len3.len_below c.updates-item.is c.reserve_for_updates.ensures
