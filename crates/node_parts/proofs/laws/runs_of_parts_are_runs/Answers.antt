use Rattle.node_parts.proofs.Runs.{runs-are-runs, empty-runs-are-runs}
use Rattle.node_parts.proofs.laws.runs_of_parts_are_runs.Goals as goal

pub returns-clause-runs : goal.returns-clause-runs
returns-clause-runs c = runs-are-runs

pub returns-clause-empties : goal.returns-clause-empties
returns-clause-empties c = empty-runs-are-runs
