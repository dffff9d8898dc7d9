use Rattle.std.proofs.Common.{subst}
use Rattle.std.specs.Prelude.{IfOk, IfErr}
use Rattle.node_core.specs.Observable.{observable}
use Rattle.ets_script.specs.Script.{ScriptState}
use Rattle.ets_script.specs.Flows.{flows}
use Rattle.ets_script.specs.Stops.{LeavesNode, Stops}
use Rattle.ets_script.proofs.run.run_script_with_reasons.Goals as goal

pub returns-clause-ok : goal.returns-clause-ok
returns-clause-ok g c =
    let ends : ScriptState → Type 0 = λ s. IfOk c.run_with-end.result (λ node. LeavesNode s (observable node) (flows g.R.Read.remaining g.W.Write.contents c.args.streams.now c.run_with-end.new.streams)) in
    subst ends c.new-script.ensures c.run_with-end.ensures.ok

pub returns-clause-err : goal.returns-clause-err
returns-clause-err g c =
    let stops : ScriptState → Type 0 = λ s. IfErr c.run_with-end.result (Stops s (flows g.R.Read.remaining g.W.Write.contents c.args.streams.now c.run_with-end.new.streams)) in
    subst stops c.new-script.ensures c.run_with-end.ensures.err
