use Rattle.ets_script.proofs.KnownBytes.{if-ok}
use Rattle.ets_script.proofs.Clients.{worked-run}
use Rattle.ets_script.proofs.processes.run_processes.Goals as goal

pub returns : goal.returns
returns g c =
    if-ok c.unzip.result
    (λ r is. rw (is.0, is.1) (worked-run 0 c.args.work.jobs c.in_ok-enrolled.enrolled.items c.in_ok-workers.workers.items c.in_ok-enrolled.ensures c.in_ok-workers.ensures)) c.unzip.ensures
