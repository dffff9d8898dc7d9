use Rattle.std.proofs.Common.{subst}
use Rattle.node_core.specs.State.{State}
use Rattle.node_core.specs.Observable.{observable}
use Rattle.node_core.specs.laws.Reached.{IsSound}
use Rattle.node_core.proofs.moves.Revealed.{sound-revealed}
use Rattle.node_core.proofs.node.Node.reveal_invariant.Goals as goal

pub returns : goal.returns
returns g c =
    subst (λ (s : State). IsSound (observable s)) c.self.view_is
    (sound-revealed (record { limits = c.self.inside.limits; world = c.self.inside.world }) c.reveal_invariant.ensures.contents c.reveal_invariant.ensures.names)
