use Rattle.node_core.proofs.pending.Lagging.{steps-add-lag, pending-steps-lower-lag}
use Rattle.node_core.proofs.laws.growth_keeps_up.Goals as goal

pub returns-clause-steps : goal.returns-clause-steps
returns-clause-steps c = steps-add-lag

pub returns-clause-pending : goal.returns-clause-pending
returns-clause-pending c = pending-steps-lower-lag
