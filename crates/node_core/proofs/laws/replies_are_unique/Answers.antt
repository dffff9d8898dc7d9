use Rattle.node_core.proofs.determined.UniqueRuns.{steps-unique}
use Rattle.node_core.proofs.laws.replies_are_unique.Goals as goal

pub returns : goal.returns
returns c = steps-unique
