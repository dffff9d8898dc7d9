-- The codes of the values of stores and requests.
use Rattle.std.specs.Prelude.{Option, refl}
use Rattle.std.specs.Coded.{Coded, code_by, coded×, coded_option}
use Rattle.node_core.specs.State.{State}
use Rattle.node_core.specs.inside.Codes.{state_code}
use Rattle.node_core.specs.declared.step.Reply.{Reply}
use Rattle.node_core.specs.declared.step.Step.{Step}
use Rattle.node_core.specs.contracts.step.Reply as reply
use Rattle.node_core.specs.contracts.step.Step as step
use Rattle.node_text.specs.declared.last_refusal.LastRefusal.{LastRefusal}
use Rattle.node_text.specs.contracts.last_refusal.LastRefusal as refusal
use Rattle.node_text.specs.Requests.{RequestState}
use Rattle.node_text.specs.StoreState.{StoreState}

abbrev pub reply_code : Coded (Reply × Option LastRefusal)
reply_code = coded× reply.the_row.coded (coded_option refusal.the_row.coded)

abbrev pub store_state_code : Coded StoreState
store_state_code =
    code_by (State × (Reply × Option LastRefusal)) (coded× state_code reply_code)
    (λ s. (s.node, (s.reply, s.refusal)))
    (λ p. record { node = p.0; reply = p.1.0; refusal = p.1.1 }) (λ _. refl)

abbrev pub request_state_code : Coded RequestState
request_state_code =
    code_by (Option Step × (Reply × Option LastRefusal)) (coded× (coded_option step.the_row.coded) reply_code)
    (λ s. (s.event, (s.reply, s.refusal)))
    (λ p. record { event = p.0; reply = p.1.0; refusal = p.1.1 }) (λ _. refl)
