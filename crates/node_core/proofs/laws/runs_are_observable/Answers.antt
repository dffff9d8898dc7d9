use Rattle.node_core.specs.State.{empty}
use Rattle.node_core.proofs.buckets.Runs.{run-observable}
use Rattle.node_core.proofs.laws.runs_are_observable.Goals as goal

pub returns-clause-any : goal.returns-clause-any
returns-clause-any c = λ old steps replies new. run-observable old new steps replies

pub returns-clause-empty : goal.returns-clause-empty
returns-clause-empty c = λ limits steps replies new. run-observable (empty limits) new steps replies
