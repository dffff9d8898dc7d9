use Rattle.std.proofs.Common.{take}
use Rattle.node_shared.specs.Closing.{AreParts}
use Rattle.node_shared.proofs.transcript.first_mismatch.Given as goal

abbrev pub invariant-loop-client : goal.invariant-loop-client
invariant-loop-client g l = AreParts l.journal (take l.client-index l.clients)
