use Rattle.std.proofs.Common.{ℕ}
use Rattle.std.specs.Prelude.{IsSome}
use Rattle.node_core.specs.Pending.{pending_step_at}
use Rattle.node_core.proofs.pending.Due.{IsLeft}
use Rattle.node_core.proofs.node.due.first_pending_step.Given as goal

-- the pending step is at this index or after it, or is the dirty one
abbrev pub invariant-loop-i : goal.invariant-loop-i
invariant-loop-i g l = (t : ℕ) → IsSome (pending_step_at l.world.tables t) → IsLeft l.pending l.i t
