use Rattle.ets_c.proofs.CallRuns.{store-calls-are-runs}
use Rattle.ets_c.proofs.laws.store_calls_are_runs.Goals as goal

pub returns : goal.returns
returns c = store-calls-are-runs
