use Rattle.std.proofs.Common.{rules, ◌≡◌, true}
use Rattle.node_core.specs.Woven.{can_read}
use Rattle.node_core.proofs.walks.OwnCalls.{let-go, let-go-buckets}
use Rattle.node_core.proofs.node.Node.unfix_table.Goals as goal

pub returns-clause-release : goal.returns-clause-release
returns-clause-release g c =
    let can : can_read c.args.pid c.args.id c.args.self.now ≡ true = search rules in
    let-go c.args.pid c.args.id c.args.self.now c.in-Some.table.now c.release.new.self c.in-Some.ensures.value can c.release.ensures

pub returns-clause-buckets : goal.returns-clause-buckets
returns-clause-buckets g c =
    let can : can_read c.args.pid c.args.id c.args.self.now ≡ true = search rules in
    let-go-buckets c.args.pid c.args.id c.args.self.now c.in-Some.table.now c.release.new.self c.in-Some.ensures.value can c.release.ensures
