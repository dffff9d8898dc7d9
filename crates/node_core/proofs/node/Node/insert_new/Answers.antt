use Rattle.std.proofs.Common.{Ok, Err, subst}
use Rattle.std.proofs.lemmas.Result.{err_from_is_err_and}
use Rattle.node_core.specs.declared.node.access.Access.TheVariants.{Write}
use Rattle.node_core.proofs.calls.Changes.{changed-ok, changed-err}
use Rattle.table_ops.specs.Put.{InsertsNew}
use Rattle.table_ops.specs.Refusals.{RefinesChange}
use Rattle.fixed_walk.specs.TableState.{on_content}
use Rattle.node_core.specs.rules.Insertion.{objects_in}
use Rattle.node_core.specs.rules.Replies.{truth_reply}
use Rattle.node_core.proofs.node.Node.insert_new.Goals as goal

pub returns-in_err-inserted : goal.returns-in_err-inserted
returns-in_err-inserted g c =
    let p = err_from_is_err_and c.from_residual.result c.from_residual.ensures.1 in
    rw (p.1, p.2) (changed-err c.args.self.now c.args.pid Write c.args.table.now c.in-Some.table.now c.insert_new.new.self c.in-Some.ensures.value truth_reply (on_content (InsertsNew (objects_in c.args.objects.now))) c.in_err-inserted.field-0.0
    (subst (λ objects. RefinesChange (on_content (InsertsNew objects) c.in-Some.table.now) c.in-Some.table.now (Err c.in_err-inserted.field-0.0) c.insert_new.new.self) c.objects_in.ensures c.in_err-inserted.ensures))

pub returns : goal.returns
returns g c =
    changed-ok c.args.self.now c.args.pid Write c.args.table.now c.in-Some.table.now c.insert_new.new.self c.in-Some.ensures.value truth_reply (on_content (InsertsNew (objects_in c.args.objects.now))) c.in_ok-inserted.inserted
    (subst (λ objects. on_content (InsertsNew objects) c.in-Some.table.now (Ok c.in_ok-inserted.inserted) c.insert_new.new.self) c.objects_in.ensures c.in_ok-inserted.ensures)
