use Rattle.std.proofs.lemmas.Result.{err_from_is_err_and}
use Rattle.fixed_walk.specs.Fixes.{is_fixed}
use Rattle.fixed_walk.specs.TableState.{on_content}
use Rattle.table_ops.specs.Drop.{DeletesObject}
use Rattle.node_core.specs.declared.node.access.Access.TheVariants.{Write}
use Rattle.node_core.specs.rules.Replies.{true_reply}
use Rattle.node_core.proofs.calls.Changes.{changed-ok, changed-err}
use Rattle.node_core.proofs.calls.Removals.{refused-object}
use Rattle.node_core.proofs.node.Node.delete_object.Goals as goal

pub returns-in_err-delete_object : goal.returns-in_err-delete_object
returns-in_err-delete_object g c =
    let p = err_from_is_err_and c.from_residual.result c.from_residual.ensures.1 in
    rw (p.1, p.2) (changed-err c.args.self.now c.args.pid Write c.args.table.now c.in-Some.table.now c.delete_object.new.self c.in-Some.ensures.value (λ _. true_reply)
    (λ table. on_content (DeletesObject (is_fixed table.fixes) c.args.object.now) table) c.in_err-delete_object.field-0.0
    (refused-object (is_fixed c.in-Some.table.now.fixes) c.args.object.now c.in-Some.table.now c.delete_object.new.self c.in_err-delete_object.field-0.0 c.in_err-delete_object.ensures))

pub returns : goal.returns
returns g c =
    changed-ok c.args.self.now c.args.pid Write c.args.table.now c.in-Some.table.now c.delete_object.new.self c.in-Some.ensures.value (λ _. true_reply)
    (λ table. on_content (DeletesObject (is_fixed table.fixes) c.args.object.now) table) tt c.in_ok-delete_object.ensures
