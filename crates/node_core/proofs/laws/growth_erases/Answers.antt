use Rattle.node_core.proofs.determined.Erasing.{growth-erases}
use Rattle.node_core.proofs.laws.growth_erases.Goals as goal

pub returns : goal.returns
returns c = growth-erases
