use Rattle.node_core.proofs.replies.Predicted.{two-suffices}
use Rattle.node_core.proofs.node.Node.reserve_for_two.Goals as goal

pub returns-in-New : goal.returns-in-New
returns-in-New g c = rw c.in-New.is (c.predict_name.ensures c.args.self.now c.args.pid c.args.y.now)

pub returns-in_default : goal.returns-in_default
returns-in_default g c = two-suffices c.args.self.now c.args.pid c.args.name c.args.x.now c.args.y.now c.in_default.not-New c.in_default.not-Take
