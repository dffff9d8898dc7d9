use Rattle.std.proofs.Common.{option_copied}
use Rattle.std.proofs.lemmas.Result.{err_from_is_err_and}
use Rattle.node_core.specs.declared.node.access.Access.TheVariants.{Write}
use Rattle.node_core.specs.declared.step.Reply.TheVariants.{Value}
use Rattle.node_core.specs.rules.Updates.{Counts}
use Rattle.node_core.proofs.calls.Changes.{changed-ok, changed-err}
use Rattle.node_core.proofs.node.Node.update_counter.Goals as goal

pub returns-in_err-answer : goal.returns-in_err-answer
returns-in_err-answer g c =
    let p = err_from_is_err_and c.from_residual.result c.from_residual.ensures.1 in
    rw (p.1, p.2) (changed-err c.args.self.now c.args.pid Write c.args.table.now c.in-Some.table.now c.apply_operations.new.table c.in-Some.ensures.value Value (Counts c.args.update.key.now c.args.update.changes.now (option_copied c.args.update.default)) c.in_err-answer.field-0.0 c.in_err-answer.ensures)

pub returns : goal.returns
returns g c =
    changed-ok c.args.self.now c.args.pid Write c.args.table.now c.in-Some.table.now c.apply_operations.new.table c.in-Some.ensures.value Value (Counts c.args.update.key.now c.args.update.changes.now (option_copied c.args.update.default)) c.in_ok-answer.answer c.in_ok-answer.ensures
