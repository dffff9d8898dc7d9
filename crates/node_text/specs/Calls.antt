-- What each call of a store does.
use Rattle.std.specs.Prelude.{◌≡◌, ℕ, ℤ, ◌⊎◌, List, Option, Some, None, option_map}
use Rattle.ets_term.specs.declared.term.Term.{Term}
use Rattle.node_core.specs.State.{empty}
use Rattle.node_core.specs.Machine.{step}
use Rattle.node_core.specs.declared.limits.Limits.{Limits}
use Rattle.node_core.specs.declared.step.Step.{Step}
use Rattle.node_core.specs.declared.step.Step.TheVariants.{Ask}
use Rattle.node_core.specs.declared.step.Reply.TheVariants.{NoProcess}
use Rattle.node_reasons.specs.Why.{why}
use Rattle.node_reasons.specs.SyntaxProblems.{diagnose_in_call}
use Rattle.term_text.specs.Printed.{text_of_term}
use Rattle.external_term.specs.Encoding.{encode_with_version}
use Rattle.node_text.specs.ExternalCalls as external
use Rattle.node_text.specs.declared.external_call.ExternalCall.{ExternalCall}
use Rattle.node_text.specs.declared.external_call.ExternalCall.TheVariants as external_call
use Rattle.node_text.specs.StoreState.{StoreState, with_refusal}
use Rattle.node_text.specs.Texts.{parse_call}
use Rattle.node_text.specs.Answers.{WrittenReply, status_of, WritesReply, WritesReason, WritesNothing, WritesNumber}
use Rattle.node_text.specs.declared.text_call.TextCall.{TextCall}
use Rattle.node_text.specs.declared.text_call.TextCall.TheVariants.{Call, Faulty}
use Rattle.node_text.specs.declared.last_refusal.LastRefusal.{LastRefusal}
use Rattle.node_text.specs.declared.last_refusal.LastRefusal.TheVariants.{Broken, Syntax, External, NoMemory}
use Rattle.node_text.specs.declared.status.TheConstants as is

-- a new store with these limits, before its first step
abbrev pub new_store : Limits → StoreState
new_store limits = record { node = empty limits; reply = NoProcess; refusal = None }

-- a step of the specification is run; its reply is kept, and the reason if it is refused: the rule that it breaks
abbrev pub RunsStep : StoreState → Step → StoreState → Type 0
RunsStep old event new =
    step old.node event new.reply new.node × (new.refusal ≡ option_map Broken (why old.node event new.reply))

-- a step is run, and the status of its reply is returned; or memory runs out, and only the reason of the refusal
-- changes
abbrev pub StepReturns : Step → ℤ → StoreState → StoreState → Type 0
StepReturns event status old new =
    (RunsStep old event new × (status ≡ status_of new.reply))
    ⊎ ((status ≡ is.NO_MEMORY) × (new ≡ with_refusal NoMemory old))

-- A call is made, and its reply is returned, where a term has these bytes; or memory runs out for the call, and only
-- the reason of the refusal changes.
abbrev pub AskReturns : (Term → List ℕ) → ℕ → List ℕ → List Term → WrittenReply → StoreState → StoreState → Type 0
AskReturns bytes_of pid name args t old new =
    (RunsStep old (Ask pid (record { name = name; args = args })) new × WritesReply bytes_of new.reply t)
    ⊎ ((new ≡ with_refusal NoMemory old) × WritesNothing is.NO_MEMORY t)

-- A text or bytes that are not a call change only the reason of the refusal. The offset of the fault is returned in
-- place of a length. Or memory runs out.
abbrev pub FaultReturns : LastRefusal → ℕ → WrittenReply → StoreState → StoreState → Type 0
FaultReturns refusal at t old new =
    ((new ≡ with_refusal refusal old) × WritesNumber is.SYNTAX at t)
    ⊎ ((new ≡ with_refusal NoMemory old) × WritesNothing is.NO_MEMORY t)

-- what a call by a text returns: the reply is a text
abbrev pub CallReturns : List ℕ → TextCall → ℕ → WrittenReply → StoreState → StoreState → Type 0
CallReturns text (Call name args) pid = AskReturns text_of_term pid name args
CallReturns text (Faulty at) pid = FaultReturns (Syntax (diagnose_in_call text at)) at

-- what a call by a term in the external format returns: the reply is in this format
abbrev pub ExternalCallReturns : ExternalCall → ℕ → WrittenReply → StoreState → StoreState → Type 0
ExternalCallReturns (external_call.Call name args) pid = AskReturns encode_with_version pid name args
ExternalCallReturns (external_call.Faulty problem at) pid = FaultReturns (External problem) at

-- What a call on a handle does. On an open handle, the rule holds of its store before and after. A closed handle stays
-- closed, and the status is `CLOSED`.
abbrev pub OnStore : Type 0 → (StoreState → StoreState → Type 0) → Option StoreState → Option StoreState → Type 0
OnStore closed rule None new = (new ≡ None) × closed
OnStore closed rule (Some old) new = (stored : StoreState) × (new ≡ Some stored) × rule old stored

-- a handle gets this store, or keeps what it has if memory runs out
abbrev pub HandleGets : StoreState → Option StoreState → ℤ → Option StoreState → Type 0
HandleGets store old status new =
    ((status ≡ is.VALUE) × (new ≡ Some store)) ⊎ ((status ≡ is.NO_MEMORY) × (new ≡ old))

-- a handle gets a new store, or keeps what it has if memory runs out
abbrev pub HandleOpens : Limits → Option StoreState → ℤ → Option StoreState → Type 0
HandleOpens limits = HandleGets (new_store limits)

-- a step is run on a handle
abbrev pub HandleSteps : Option StoreState → Step → ℤ → Option StoreState → Type 0
HandleSteps old event status new = OnStore (status ≡ is.CLOSED) (StepReturns event status) old new

-- a call by a text is made on a handle
abbrev pub HandleCalls : Option StoreState → ℕ → List ℕ → Option StoreState → WrittenReply → Type 0
HandleCalls old pid text new t = OnStore (WritesNothing is.CLOSED t) (CallReturns text (parse_call text) pid t) old new

-- a call by a term in the external format is made on a handle
abbrev pub HandleCallsExternal : Option StoreState → ℕ → List ℕ → Option StoreState → WrittenReply → Type 0
HandleCallsExternal old pid bytes new t =
    OnStore (WritesNothing is.CLOSED t) (ExternalCallReturns (external.parse_call bytes) pid t) old new

-- the last reply is returned again, where a term has these bytes
abbrev pub RewritesReply : (Term → List ℕ) → Option StoreState → WrittenReply → Type 0
RewritesReply bytes_of None = WritesNothing is.CLOSED
RewritesReply bytes_of (Some stored) = WritesReply bytes_of stored.reply

-- the reason why the last call was refused is returned
abbrev pub WritesLastReason : Option StoreState → WrittenReply → Type 0
WritesLastReason None = WritesNothing is.CLOSED
WritesLastReason (Some stored) = WritesReason stored.refusal
