use Rattle.node_core.proofs.determined.Laws.{nothing-changed, buckets-stay}
use Rattle.node_core.proofs.laws.refusals_change_nothing.Goals as goal

pub returns-clause-machine : goal.returns-clause-machine
returns-clause-machine c = nothing-changed

pub returns-clause-node : goal.returns-clause-node
returns-clause-node c = buckets-stay
