use Rattle.node_core.proofs.pending.Sufficing.{growth-suffices}
use Rattle.node_core.proofs.laws.growth_suffices.Goals as goal

pub returns : goal.returns
returns c = growth-suffices
