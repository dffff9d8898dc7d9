use Rattle.std.proofs.lemmas.Result.{err_from_is_err_and}
use Rattle.node_core.specs.declared.node.access.Access.TheVariants.{Write}
use Rattle.node_core.specs.rules.Replies.{true_reply}
use Rattle.node_core.specs.rules.Searching.{DeletesMatching}
use Rattle.node_core.proofs.calls.Changes.{changed-ok, changed-err}
use Rattle.node_core.proofs.node.Node.match_delete.Goals as goal

pub returns-in_err-delete_matching : goal.returns-in_err-delete_matching
returns-in_err-delete_matching g c =
    let p = err_from_is_err_and c.from_residual.result c.from_residual.ensures.1 in
    rw (p.1, p.2) (changed-err c.args.self.now c.args.pid Write c.args.table.now c.in-Some.table.now c.delete_matching.new.table c.in-Some.ensures.value (λ _. true_reply) (DeletesMatching c.args.pattern.now) c.in_err-delete_matching.field-0.0 c.in_err-delete_matching.ensures)

pub returns : goal.returns
returns g c =
    rw c.true_reply.ensures (changed-ok c.args.self.now c.args.pid Write c.args.table.now c.in-Some.table.now c.delete_matching.new.table c.in-Some.ensures.value (λ _. true_reply) (DeletesMatching c.args.pattern.now) tt c.in_ok-delete_matching.ensures)
