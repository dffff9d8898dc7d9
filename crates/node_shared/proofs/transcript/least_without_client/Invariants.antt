use Rattle.std.proofs.Common.{take}
use Rattle.node_shared.specs.inside.Closing.{FindsMissing}
use Rattle.node_shared.proofs.transcript.least_without_client.Given as goal

abbrev pub invariant-loop-entry : goal.invariant-loop-entry
invariant-loop-entry g l = FindsMissing (take l.entry-index l.journal) l.clients l.least
