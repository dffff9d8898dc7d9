-- The reason of a step that was run is the same in the state before it and after it: a refused step leaves the state as it
-- was, and a step that has a value as its reply breaks no rule.
use Rattle.std.proofs.Common.{◌≡◌, Bool, true, false, not, Option, None, Some, refl, sym, ap, subst, ◌∙◌}
use Rattle.std.specs.Prelude.{is_some}
use Rattle.node_core.specs.declared.step.Reply.{Reply}
use Rattle.node_core.specs.declared.step.Step.{Step}
use Rattle.node_core.specs.State.{State}
use Rattle.node_core.specs.Machine.{step}
use Rattle.node_core.specs.Values.{is_value}
use Rattle.node_core.proofs.determined.Laws.{nothing-changed}
use Rattle.node_reasons.specs.Laws.{Explains}
use Rattle.node_reasons.specs.Reasons.{refusal_of}
use Rattle.node_reasons.specs.Why.{why}
use Rattle.node_reasons.specs.declared.reason.Reason.{Reason}
use Rattle.node_reasons.specs.declared.reason.Rule.{Rule}
use Rattle.node_reasons.specs.declared.reason.Rule.TheVariants as rule
use Rattle.node_reasons.proofs.Exact.{exact}

refuses : (broken : Rule) → is_value (refusal_of broken) ≡ false
refuses rule.NoProcess = refl
refuses rule.TooDeep = refl
refuses rule.TooManyProcesses = refl
refuses rule.TooManyTables = refl
refuses rule.TooManyObjects = refl
refuses rule.TooManyFixes = refl
refuses rule.LimitExceeded = refl
refuses _ = refl

no-reason : (reason : Option Reason) (reply : Reply) → Explains reason reply → is_value reply ≡ true → reason ≡ None
no-reason None reply h e = refl
no-reason (Some reason) reply h e = let other : is_value reply ≡ false = ap is_value h ∙ refuses reason.rule in absurd (cc)

none : {X : Type 0} (o : Option X) → is_some o ≡ false → o ≡ None
none None e = refl
none (Some x) e = absurd (cc)

pub told : (reason : Option Reason) (old now : State) (event : Step) (reply : Reply) → is_some reason ≡ not (is_value reply)
    → ((new : State) → step now event reply new → reason ≡ why now event reply) → step old event reply now → reason ≡ why old event reply
told reason old now event reply exactly named ran = by (is_value reply) refl
  where
    by : (value : Bool) → is_value reply ≡ value → reason ≡ why old event reply
    by true e = none reason (exactly ∙ ap not e) ∙ sym (no-reason (why old event reply) reply (exact old now event reply ran) e)
    by false e =
        let same = nothing-changed old now event reply ran e in
        named now (subst (λ (s : State). step s event reply now) (sym same) ran) ∙ ap (λ (s : State). why s event reply) same

pub again : (reason : Option Reason) (now : State) (event : Step) (reply : Reply) → is_some reason ≡ not (is_value reply)
    → ((old : State) → step old event reply now → reason ≡ why old event reply)
    → (new : State) → step now event reply new → reason ≡ why now event reply
again reason now event reply exactly named new ran = by (is_value reply) refl
  where
    by : (value : Bool) → is_value reply ≡ value → reason ≡ why now event reply
    by true e = none reason (exactly ∙ ap not e) ∙ sym (no-reason (why now event reply) reply (exact now new event reply ran) e)
    by false e =
        named now (subst (λ (s : State). step now event reply s) (nothing-changed now new event reply ran e) ran)
