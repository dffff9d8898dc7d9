-- What holds of reasons, for each step and each reply that the machine may give to it.
use Rattle.std.specs.Prelude.{◌≡◌, true, Option, Some, None}
use Rattle.node_core.specs.declared.step.Reply.{Reply}
use Rattle.node_core.specs.declared.step.Step.{Step}
use Rattle.node_core.specs.State.{State}
use Rattle.node_core.specs.Machine.{step}
use Rattle.node_core.specs.Values.{is_value}
use Rattle.node_reasons.specs.declared.reason.Reason.{Reason}
use Rattle.node_reasons.specs.Reasons.{refusal_of}
use Rattle.node_reasons.specs.Why.{why}

-- there is no reason, and the reply is a value; or there is a reason, and the reply is the refusal of its rule
abbrev pub Explains : Option Reason → Reply → Type 0
Explains None reply = is_value reply ≡ true
Explains (Some reason) reply = reply ≡ refusal_of reason.rule

-- this holds of each step and each reply that the machine may give to it
abbrev pub ReasonsAreExact : Type 0
ReasonsAreExact = (old new : State) (s : Step) (reply : Reply) → step old s reply new → Explains (why old s reply) reply
