use Rattle.std.proofs.Common.{length}
use Rattle.node_core.specs.inside.Due.{TracksPending}
use Rattle.node_core.proofs.node.due.remove_idle.Given as goal

abbrev pub invariant-loop-id : goal.invariant-loop-id
invariant-loop-id g l = TracksPending l.world.tables l.pending

abbrev pub decreases-loop-id : goal.decreases-loop-id
decreases-loop-id g l = length l.pending.queue
