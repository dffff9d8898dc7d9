use Rattle.std.proofs.Common.{rules, ◌≡◌, true}
use Rattle.std.proofs.lemmas.Result.{err_from_is_err_and}
use Rattle.node_core.specs.Woven.{can_read}
use Rattle.node_core.proofs.walks.OwnCalls.{fix-refines, fix-buckets, fix-refused, fix-refused-unchanged}
use Rattle.node_core.proofs.node.Node.fix_table.Goals as goal

pub returns-in_err-fix-clause-fix : goal.returns-in_err-fix-clause-fix
returns-in_err-fix-clause-fix g c =
    let can : can_read c.args.pid c.args.id c.args.self.now ≡ true = search rules in
    let p = err_from_is_err_and c.from_residual.result c.from_residual.ensures.1 in
    rw (p.1, p.2) (fix-refused c.args.pid c.args.id c.args.self.now c.in-Some.table.now c.fix.new.self c.in-Some.ensures.value can c.in_err-fix.field-0.0 c.in_err-fix.ensures)

pub returns-in_err-fix-clause-buckets : goal.returns-in_err-fix-clause-buckets
returns-in_err-fix-clause-buckets g c =
    let can : can_read c.args.pid c.args.id c.args.self.now ≡ true = search rules in
    let p = err_from_is_err_and c.from_residual.result c.from_residual.ensures.1 in
    rw p.1 (fix-refused-unchanged c.args.pid c.args.id c.args.self.now c.in-Some.table.now c.fix.new.self c.in-Some.ensures.value can c.in_err-fix.field-0.0 c.in_err-fix.ensures)

pub returns-clause-fix : goal.returns-clause-fix
returns-clause-fix g c =
    let can : can_read c.args.pid c.args.id c.args.self.now ≡ true = search rules in
    fix-refines c.args.pid c.args.id c.args.self.now c.in-Some.table.now c.fix.new.self c.in-Some.ensures.value can c.in_ok-fix.ensures c.reveal_invariant.ensures.content

pub returns-clause-buckets : goal.returns-clause-buckets
returns-clause-buckets g c =
    let can : can_read c.args.pid c.args.id c.args.self.now ≡ true = search rules in
    fix-buckets c.args.pid c.args.id c.args.self.now c.in-Some.table.now c.fix.new.self c.in-Some.ensures.value can c.in_ok-fix.ensures
