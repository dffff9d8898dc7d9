use Rattle.std.proofs.Common.{subst}
use Rattle.node_shared.specs.Records.{RecordState}
use Rattle.node_shared.specs.Running.{AllEndRuns}
use Rattle.node_shared.proofs.client.Client.entries.Goals as goal

pub returns-clause-runs : goal.returns-clause-runs
returns-clause-runs g c = subst (λ (k : RecordState). AllEndRuns g.L.Ledger.parts k.entries) c.self.view_is c.self.invariant.2
