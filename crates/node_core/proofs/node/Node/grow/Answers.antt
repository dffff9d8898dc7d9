use Rattle.std.proofs.Common.{refl}
use Rattle.node_core.specs.rules.Growth.{Grows, ok_reply}
use Rattle.node_core.proofs.buckets.Growing.{done}
use Rattle.node_core.proofs.node.Node.grow.Goals as goal

pub returns-clause-ok : goal.returns-clause-ok
returns-clause-ok g c =
    rw c.atom_reply.ensures (done c.args.self.now c.args.id c.in-Some.table.now c.grow.new.self c.in-Some.ensures.value Grows ok_reply (refl, c.in_ok-grow.field-0, c.in_ok-grow.ensures.ok, c.in_ok-grow.ensures.content))
