use Rattle.std.proofs.Common.{refl}
use Rattle.node_core.specs.declared.node.access.Access.TheVariants.{Read}
use Rattle.node_core.specs.rules.Replies.{true_reply}
use Rattle.node_core.specs.rules.Walking.{Releases}
use Rattle.node_core.proofs.calls.Changes.{changed}
use Rattle.node_core.proofs.node.Node.release.Goals as goal

pub returns : goal.returns
returns g c =
    rw c.true_reply.ensures (changed c.args.self.now c.args.pid Read c.args.table.now c.in-Some.table.now c.release.new.self c.in-Some.ensures.value (Releases c.args.pid) true_reply (refl, c.release.ensures))
