use Rattle.std.proofs.Common.{refl}
use Rattle.node_core.specs.rules.Growth.{Readies, ok_reply}
use Rattle.node_core.proofs.buckets.Growing.{done, readied}
use Rattle.node_core.proofs.node.Node.ready.Goals as goal

pub returns-clause-ok : goal.returns-clause-ok
returns-clause-ok g c =
    rw c.atom_reply.ensures (done c.args.self.now c.args.id c.in-Some.table.now c.ready.new.self c.in-Some.ensures.value (Readies c.args.bucket) ok_reply (refl, readied c.in-Some.table.now c.ready.new.self c.args.bucket c.in_ok-ready.field-0 c.in_ok-ready.ensures.ok c.in_ok-ready.ensures.content))
