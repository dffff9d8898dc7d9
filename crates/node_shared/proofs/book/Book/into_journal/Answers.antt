use Rattle.std.proofs.Common.{sym, subst}
use Rattle.node_core.specs.declared.limits.Limits.{Limits}
use Rattle.node_shared.specs.Journal.{IsRun}
use Rattle.node_shared.specs.Records.{BookState}
use Rattle.node_shared.proofs.book.Book.into_journal.Goals as goal

pub returns-clause-run : goal.returns-clause-run
returns-clause-run g c =
    let was = c.self.invariant in
    let own = subst (λ (limits : Limits). IsRun limits c.self.inside.journal.items c.self.inside.node) (sym was.same) was.run in
    subst (λ (k : BookState). IsRun k.state.limits k.journal k.state) c.self.view_is own
