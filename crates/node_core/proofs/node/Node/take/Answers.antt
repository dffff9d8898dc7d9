use Rattle.std.proofs.Common.{ap}
use Rattle.std.proofs.lemmas.Result.{err_from_is_err_and}
use Rattle.node_core.specs.declared.node.access.Access.TheVariants.{Write}
use Rattle.node_core.specs.rules.Removal.{Take}
use Rattle.node_core.specs.rules.Replies.{list_reply}
use Rattle.node_core.proofs.calls.Changes.{changed, unchanged}
use Rattle.node_core.proofs.node.Node.take.Goals as goal

pub returns-in_err-objects : goal.returns-in_err-objects
returns-in_err-objects g c =
    let p = err_from_is_err_and c.from_residual.result c.from_residual.ensures.1 in
    rw (p.1, p.2) (unchanged c.args.self.now c.args.pid Write c.args.table.now c.in-Some.table.now c.take.new.self c.in-Some.ensures.value c.in_err-objects.ensures.err)

pub returns : goal.returns
returns g c =
    changed c.args.self.now c.args.pid Write c.args.table.now c.in-Some.table.now c.take.new.self c.in-Some.ensures.value (Take c.args.key.now) (list_reply c.in_ok-objects.objects) (ap list_reply c.in_ok-objects.ensures.objects, c.in_ok-objects.ensures.ok)
