use Rattle.node_core.proofs.pending.Keeping.{enrol-keeps}
use Rattle.node_core.proofs.node.Node.enrol.Goals as goal

pub invariant_of-self : goal.invariant_of-self
invariant_of-self g c = enrol-keeps c.self.inside.pending c.self.inside.world c.enrol.new.self c.self.invariant c.args.pid c.enrol.result c.enrol.ensures
