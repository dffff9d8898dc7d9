use Rattle.node_core.proofs.determined.Laws.{outcomes}
use Rattle.node_core.proofs.laws.steps_have_outcomes.Goals as goal

pub returns : goal.returns
returns c = outcomes
