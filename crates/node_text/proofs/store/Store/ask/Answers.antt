use Rattle.std.proofs.Common.{rules, ◌≡◌, sym, subst}
use Rattle.node_core.specs.declared.step.Call.{Call}
use Rattle.node_core.specs.declared.step.Step.TheVariants.{Ask}
use Rattle.node_text.specs.Calls.{RunsStep}
use Rattle.node_text.specs.StoreState.{StoreState}
use Rattle.node_text.proofs.store.Store.ask.Goals as goal

pub returns : goal.returns
returns c =
    let same : c.new.result ≡ record { name = c.args.name; args = c.args.args } = search rules in
    let done : RunsStep c.args.self.now (Ask c.args.pid (record { name = c.args.name; args = c.args.args })) c.step.new.self =
    subst (λ (call : Call). RunsStep c.args.self.now (Ask c.args.pid call) c.step.new.self) same c.in_ok-step.ensures.ok in
    subst (λ (new : StoreState). RunsStep c.args.self.now (Ask c.args.pid (record { name = c.args.name; args = c.args.args })) new) (sym c.run_pending_steps.ensures) done
