use Rattle.std.proofs.Common.{refl}
use Rattle.node_core.specs.declared.node.access.Access.TheVariants.{Write}
use Rattle.node_core.specs.rules.Removal.{DeleteAllObjects}
use Rattle.node_core.specs.rules.Replies.{true_reply}
use Rattle.node_core.proofs.calls.Changes.{changed}
use Rattle.node_core.proofs.node.Node.delete_all_objects.Goals as goal

pub returns : goal.returns
returns g c =
    changed c.args.self.now c.args.pid Write c.args.table.now c.in-Some.table.now c.delete_all.new.self c.in-Some.ensures.value DeleteAllObjects true_reply (refl, c.delete_all.ensures)
