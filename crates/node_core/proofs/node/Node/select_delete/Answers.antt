use Rattle.std.proofs.lemmas.Result.{err_from_is_err_and}
use Rattle.node_core.specs.declared.node.access.Access.TheVariants.{Write}
use Rattle.node_core.specs.rules.Searching.{count_reply, DeletesChosen}
use Rattle.node_core.proofs.calls.Changes.{changed-ok, changed-err}
use Rattle.node_core.proofs.node.Node.select_delete.Goals as goal

pub returns-in_err-deleted : goal.returns-in_err-deleted
returns-in_err-deleted g c =
    let p = err_from_is_err_and c.from_residual.result c.from_residual.ensures.1 in
    rw (p.1, p.2) (changed-err c.args.self.now c.args.pid Write c.args.table.now c.in-Some.table.now c.delete_selected.new.table c.in-Some.ensures.value count_reply (DeletesChosen c.args.spec.now) c.in_err-deleted.field-0.0 c.in_err-deleted.ensures.content)

pub returns : goal.returns
returns g c =
    rw c.count_reply.ensures (changed-ok c.args.self.now c.args.pid Write c.args.table.now c.in-Some.table.now c.delete_selected.new.table c.in-Some.ensures.value count_reply (DeletesChosen c.args.spec.now) c.in_ok-deleted.deleted c.in_ok-deleted.ensures.content)
