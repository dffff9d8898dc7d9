use Rattle.node_core.proofs.determined.Laws.{nodes-agree}
use Rattle.node_core.proofs.determined.UniqueRuns.{runs-agree}
use Rattle.node_core.proofs.laws.runs_agree.Goals as goal

pub returns-clause-runs : goal.returns-clause-runs
returns-clause-runs c = runs-agree

pub returns-clause-nodes : goal.returns-clause-nodes
returns-clause-nodes c = nodes-agree
