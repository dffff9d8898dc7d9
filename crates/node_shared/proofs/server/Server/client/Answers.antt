use Rattle.std.proofs.Common.{ℕ, subst}
use Rattle.node_shared.specs.declared.book.BookFault.TheVariants as book
use Rattle.node_shared.specs.Faults.{RefusesWith}
use Rattle.node_shared.specs.Serving.{RefusesCaller}
use Rattle.node_shared.proofs.server.Server.client.Goals as goal

pub returns-in-Err-Refused-clause-refused : goal.returns-in-Err-Refused-clause-refused
returns-in-Err-Refused-clause-refused g c =
    let limits = g.B.HistoryId.limits in
    let reply = c.in-Err-Refused.reply in
    let refused : RefusesWith (RefusesCaller limits c.pid.result) (book.Refused reply) = rw c.in-Err-Refused.field-0-is at c.in-Err-Refused.ensures.refused_run in
    subst (λ (p : ℕ). RefusesCaller limits p reply) c.pid.ensures.number refused
