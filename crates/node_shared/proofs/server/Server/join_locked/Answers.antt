use Rattle.std.proofs.Common.{◌≡◌, [], refl, subst, ap, ◌∙◌}
use Rattle.ets_term.specs.declared.term.Term.TheVariants.{Pid}
use Rattle.node_core.specs.declared.step.Step.TheVariants.{Enrol}
use Rattle.node_core.specs.declared.step.Reply.{Reply}
use Rattle.node_core.specs.declared.step.Reply.TheVariants.{Value}
use Rattle.node_shared.specs.Records.{RecordState, enrolled_record}
use Rattle.node_shared.specs.Serving.{CallerState, no_caller}
use Rattle.node_shared.specs.inside.Steps.{ServesStep}
use Rattle.node_shared.proofs.Lines.{same-number}
use Rattle.node_shared.proofs.Callers.{continues, own-last}
use Rattle.node_shared.proofs.server.Server.join_locked.Goals as goal

pub returns-clause-ok : goal.returns-clause-ok
returns-clause-ok g c =
    let did = c.in_ok-writer.ensures in
    let p = c.args.pid in
    let r : Reply = Value (Pid p) in
    let made = c.new.ensures in
    let did_step : ServesStep c.args.served.now (Enrol p) r c.join.new.self = subst (λ (x : Reply). ServesStep c.args.served.now (Enrol p) x c.join.new.self) did.pid did.step in
    let own : c.new.result.own ≡ enrolled_record p r = ap (λ (s : CallerState). s.own) made ∙ (did.own ∙ ap (enrolled_record p) did.pid) in
    let seen : c.new.result.seen ≡ c.join.new.self.history = ap (λ (s : CallerState). s.seen) made ∙ c.token.ensures in
    continues g.B.HistoryId.limits (no_caller p) c.new.result c.args.served.now c.join.new.self (Enrol p) r did_step did.run own seen (c.args.served.now.history, refl) did.none

pub new-requires-clause-own : goal.new-requires-clause-own
new-requires-clause-own g c =
    let did = c.in_ok-writer.ensures in
    let p = c.args.pid in
    let none : RecordState = record { pid = p; entries = [] } in
    own-last none c.in_ok-writer.writer c.args.served.now.history c.token.result (Enrol p) c.in_ok-writer._reply (same-number p) did.none did.own (c.token.ensures ∙ did.step.1)
