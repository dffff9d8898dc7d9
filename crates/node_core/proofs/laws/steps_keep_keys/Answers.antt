use Rattle.node_core.proofs.walks.WholeWalks.{ground}
use Rattle.node_core.proofs.laws.steps_keep_keys.Goals as goal

pub returns : goal.returns
returns c = ground
