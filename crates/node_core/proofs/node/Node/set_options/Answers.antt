use Rattle.node_core.proofs.pending.Keeping.{set-keeps}
use Rattle.node_core.proofs.node.Node.set_options.Goals as goal

pub invariant_of-self : goal.invariant_of-self
invariant_of-self g c = set-keeps c.self.inside.pending c.self.inside.world c.set_options.new.self c.self.invariant c.args.pid c.in_ok-id.id c.args.options.now c.set_options.result c.set_options.ensures
