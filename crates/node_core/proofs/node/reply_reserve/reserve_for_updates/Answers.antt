use Rattle.std.proofs.Common.{None, Some}
use Rattle.node_core.proofs.replies.Predicted.{counter-room}
use Rattle.node_core.proofs.node.reply_reserve.reserve_for_updates.Goals as goal

pub returns-in_ok-room-in-UpdateCounter : goal.returns-in_ok-room-in-UpdateCounter
returns-in_ok-room-in-UpdateCounter c =
    let fits = c.in_ok-room-in-UpdateCounter.ensures in
    rw c.in-UpdateCounter.is (λ old pid x y. (
      (counter-room old pid x y c.args.updates.now None _ fits.0, fits.1),
      λ default. (counter-room old pid x y c.args.updates.now (Some default) _ fits.0, fits.1),
    ))
