use Rattle.std.proofs.lemmas.Result.{err_from_is_err_and}
use Rattle.node_core.proofs.calls.Fixing.{fixed, refused}
use Rattle.node_core.proofs.node.Node.fix.Goals as goal

pub returns-in_err-fix : goal.returns-in_err-fix
returns-in_err-fix g c =
    let p = err_from_is_err_and c.from_residual.result c.from_residual.ensures.1 in
    rw (p.1, p.2) (refused c.args.self.now c.args.pid c.args.table.now c.in-Some.table.now c.fix.new.self c.in-Some.ensures.value c.in_err-fix.field-0.0 c.in_err-fix.ensures)

pub returns : goal.returns
returns g c = rw c.true_reply.ensures (fixed c.args.self.now c.args.pid c.args.table.now c.in-Some.table.now c.fix.new.self c.in-Some.ensures.value c.in_ok-fix.ensures)
