use Rattle.node_core.proofs.determined.Erasing.{runs-cut}
use Rattle.node_core.proofs.laws.runs_cut.Goals as goal

pub returns : goal.returns
returns c = runs-cut
