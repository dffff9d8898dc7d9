use Rattle.std.proofs.Common.{refl, sym, ◌∙◌}
use Rattle.ets_script.specs.Commands.{ask}
use Rattle.ets_script.proofs.Asking.{execute-ask-pending}
use Rattle.ets_script.proofs.script.Script.ask.Goals as goal

pub returns-in-Some : goal.returns-in-Some
returns-in-Some g c =
    let call = c.args.call in
    execute-ask-pending c.args.self.now c.caller.new.self c.step.new.self c.run_pending_steps.new.self (ask c.args.name.now call.name call.args) c.args.name.now call.name call.args c.in-Some.pid call c.step.new.answer
    refl (sym c.caller.ensures.pid ∙ c.in-Some.is) refl (c.run_pending_steps.ensures ∙ c.keep_call.ensures) c.caller.ensures.same c.step.ensures
