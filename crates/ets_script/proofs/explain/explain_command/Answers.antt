use Rattle.std.proofs.Common.{◌≡◌, ◌∙◌, ℕ, List, Option, None, Some, ap, subst, sym}
use Rattle.ets_term.specs.declared.term.Term.{Term}
use Rattle.node_core.specs.declared.step.Call.{Call}
use Rattle.node_core.specs.declared.step.Step.TheVariants.{Enrol, Ask, Grow, Ready}
use Rattle.node_reasons.specs.declared.diagnostic.Diagnostic.TheVariants.{AlreadySpawned, CallByUnknownName}
use Rattle.ets_script.specs.Script.{pid_of}
use Rattle.ets_script.specs.declared.command.Command.{Command}
use Rattle.ets_script.specs.inside.Explanations.{ExplainsCommand, ExplainsSpawn, ExplainsStep, ExplainsStepOf, next_enrolment}
use Rattle.ets_script.proofs.explain.explain_command.Goals as goal

abbrev call_of : List ℕ → List Term → Call
call_of word terms = record { name = word; args = terms }

pub returns-in-None : goal.returns-in-None
returns-in-None g c =
    let s = c.args.script.now in
    let reply = c.args.reply.now in
    let reason = c.explain_step.result in
    let unknown : pid_of s c.in-Spawn.name.now ≡ None = sym c.pid.ensures ∙ c.in-None.is in
    subst (λ (k : Command). ExplainsCommand s k reply reason) (sym c.in-Spawn.is)
    (subst (λ (o : Option ℕ). ExplainsSpawn o (next_enrolment s) (AlreadySpawned c.in-Spawn.name) s.node reply reason) (sym unknown)
    (subst (λ (p : ℕ). ExplainsStep s.node (Enrol p) reply reason) c.next_pid.ensures c.explain_step.ensures))

pub returns-in-Some-pid-2 : goal.returns-in-Some-pid-2
returns-in-Some-pid-2 g c =
    let s = c.args.script.now in
    let reply = c.args.reply.now in
    let reason = c.explain_step-in-Some-pid-2.result in
    let p = c.in-Some-pid-2.pid in
    let call = call_of c.in-Ask.word c.in-Ask.terms in
    let known : pid_of s c.in-Ask.name.now ≡ Some p = sym c.pid-in-Ask.ensures ∙ c.in-Some-pid-2.is in
    let same : c.new-call.result ≡ call = c.new-call.ensures ∙ ap (call_of c.in-Ask.word) c.into_vec.ensures in
    subst (λ (k : Command). ExplainsCommand s k reply reason) (sym c.in-Ask.is)
    (subst (λ (o : Option ℕ). ExplainsStepOf o (λ q. Ask q call) (CallByUnknownName c.in-Ask.name call) s.node reply reason) (sym known)
    (subst (λ (k : Call). ExplainsStep s.node (Ask p k) reply reason) same c.explain_step-in-Some-pid-2.ensures))

pub returns-in-Grow : goal.returns-in-Grow
returns-in-Grow g c =
    let s = c.args.script.now in
    let reply = c.args.reply.now in
    let reason = c.explain_step-in-Grow.result in
    subst (λ (k : Command). ExplainsCommand s k reply reason) (sym c.in-Grow.is)
    (subst (λ (t : ℕ). ExplainsStep s.node (Grow t) reply reason) c.table.ensures c.explain_step-in-Grow.ensures)

pub returns-in-Ready : goal.returns-in-Ready
returns-in-Ready g c =
    let s = c.args.script.now in
    let reply = c.args.reply.now in
    let reason = c.explain_step-in-Ready.result in
    subst (λ (k : Command). ExplainsCommand s k reply reason) (sym c.in-Ready.is)
    (subst (λ (t : ℕ). ExplainsStep s.node (Ready t c.in-Ready.bucket) reply reason) c.table-in-Ready.ensures c.explain_step-in-Ready.ensures)
