use Rattle.node_core.proofs.pending.Keeping.{give-keeps}
use Rattle.node_core.proofs.node.Node.give_away.Goals as goal

pub invariant_of-self : goal.invariant_of-self
invariant_of-self g c = give-keeps c.self.inside.pending c.self.inside.world c.give_away.new.self c.self.invariant c.args.pid c.in_ok-id.id c.in-Pid.to c.args.gift.now c.give_away.result c.give_away.ensures
