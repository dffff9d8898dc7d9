use Rattle.std.proofs.Common.{subst}
use Rattle.std.specs.Prelude.{Ok}
use Rattle.node_core.specs.declared.limits.Limits.{Limits}
use Rattle.node_shared.specs.Closing.{Closes}
use Rattle.ets_script.proofs.Clients.{closed}
use Rattle.ets_script.proofs.processes.run_with_ledger.Goals as goal

pub returns-in-Ok-close-clause-ok : goal.returns-in-Ok-close-clause-ok
returns-in-Ok-close-clause-ok g c =
    closed c.args.settings.limits c.args.work.jobs c.in-Ok.clients.items c.in-Ok.left.items c.in-Ok-close.transcript c.in-Ok.ensures
    (subst (λ (l : Limits). Closes l c.in-Ok.clients.items (Ok c.in-Ok-close.transcript)) c.new-shared.ensures c.in-Ok-close.ensures)
