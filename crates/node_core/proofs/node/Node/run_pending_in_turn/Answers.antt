use Rattle.std.proofs.Common.{subst}
use Rattle.node_core.specs.State.{State}
use Rattle.node_core.specs.Pending.{RunsAtMost}
use Rattle.node_core.proofs.pending.Running.{one-at-most}
use Rattle.node_core.proofs.node.Node.run_pending_in_turn.Goals as goal

pub returns-then-is_turn_of_others-clause-steps : goal.returns-then-is_turn_of_others-clause-steps
returns-then-is_turn_of_others-clause-steps g c =
    let P : State → Type 0 = λ s. RunsAtMost 1 s c.run_pending.new.self in
    subst P c.self.view_is (one-at-most c.run_pending.new.self c.run_pending.result c.run_pending.ensures.pending c.run_pending.ensures.err)
