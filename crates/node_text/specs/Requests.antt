-- What a request holds, and what the calls that read and run one do.
use Rattle.std.specs.Prelude.{◌≡◌, ℕ, ℤ, ◌⊎◌, List, Option, Some, None, unwrap_or}
use Rattle.ets_term.specs.declared.term.Term.{Term}
use Rattle.node_core.specs.declared.step.Step.{Step}
use Rattle.node_core.specs.declared.step.Step.TheVariants.{Ask}
use Rattle.node_core.specs.declared.step.Reply.{Reply}
use Rattle.node_core.specs.declared.step.Reply.TheVariants.{NoProcess}
use Rattle.node_text.specs.ExternalCalls as external
use Rattle.node_text.specs.declared.external_call.ExternalCall.{ExternalCall}
use Rattle.node_text.specs.declared.external_call.ExternalCall.TheVariants as external_call
use Rattle.node_reasons.specs.SyntaxProblems.{diagnose_in_call}
use Rattle.node_text.specs.StoreState.{StoreState}
use Rattle.node_text.specs.Texts.{parse_call}
use Rattle.node_text.specs.Answers.{WrittenReply, status_of, WritesReply, WritesReason, WritesNothing}
use Rattle.node_text.specs.Calls.{RunsStep}
use Rattle.node_text.specs.declared.text_call.TextCall.{TextCall}
use Rattle.node_text.specs.declared.text_call.TextCall.TheVariants.{Call, Faulty}
use Rattle.node_text.specs.declared.last_refusal.LastRefusal.{LastRefusal}
use Rattle.node_text.specs.declared.last_refusal.LastRefusal.TheVariants.{Syntax, External, NoMemory}
use Rattle.node_text.specs.declared.status.TheConstants as is

-- the call that was read, if any, the reply to the last call that was run, and why the last call was refused, if it was
pub record RequestState : Type 0 where
  pub event : Option Step
  pub reply : Reply
  pub refusal : Option LastRefusal

-- a request before its first call
abbrev pub empty_request : RequestState
empty_request = record { event = None; reply = NoProcess; refusal = None }

-- a request with the call of a process, which has not been run yet
abbrev pub with_call : ℕ → List ℕ → List Term → RequestState → RequestState
with_call pid name args r = record r { event = Some (Ask pid (record { name = name; args = args })); refusal = None }

-- a request without a call, for this reason
abbrev pub without_call : LastRefusal → RequestState → RequestState
without_call refusal r = record r { event = None; refusal = Some refusal }

-- a call was read
abbrev pub TakesCall : ℕ → List ℕ → List Term → RequestState → ℤ → ℕ → RequestState → Type 0
TakesCall pid name args old status len new =
    (status ≡ is.VALUE) × (len ≡ 0) × (new ≡ with_call pid name args old)

-- a text or bytes that are not a call, for this reason; the offset of the fault is returned in place of a length
abbrev pub TakesFault : LastRefusal → ℕ → RequestState → ℤ → ℕ → RequestState → Type 0
TakesFault refusal at old status len new = (status ≡ is.SYNTAX) × (len ≡ at) × (new ≡ without_call refusal old)

-- memory ran out for the call
abbrev pub TakesNothing : RequestState → ℤ → ℕ → RequestState → Type 0
TakesNothing old status len new = (status ≡ is.NO_MEMORY) × (len ≡ 0) × (new ≡ without_call NoMemory old)

-- what a request takes from a text that was parsed
abbrev pub Takes : List ℕ → TextCall → ℕ → RequestState → ℤ → ℕ → RequestState → Type 0
Takes text (Call name args) pid = TakesCall pid name args
Takes text (Faulty at) pid = TakesFault (Syntax (diagnose_in_call text at)) at

-- what a request takes from bytes that were parsed
abbrev pub TakesExternal : ExternalCall → ℕ → RequestState → ℤ → ℕ → RequestState → Type 0
TakesExternal (external_call.Call name args) pid = TakesCall pid name args
TakesExternal (external_call.Faulty problem at) pid = TakesFault (External problem) at

-- what is read from a text, or memory runs out
abbrev pub Reads : List ℕ → ℕ → RequestState → ℤ → ℕ → RequestState → Type 0
Reads text pid old status len new = Takes text (parse_call text) pid old status len new ⊎ TakesNothing old status len new

-- what is read from a term in the external format, or memory runs out
abbrev pub ReadsExternal : List ℕ → ℕ → RequestState → ℤ → ℕ → RequestState → Type 0
ReadsExternal bytes pid old status len new =
    TakesExternal (external.parse_call bytes) pid old status len new ⊎ TakesNothing old status len new

-- A step of the specification is run, and its reply and the reason of a refusal go to the request; the store keeps its
-- own. Or memory runs out, and the store stays as it is.
abbrev pub RunReturns : Step → ℤ → StoreState → StoreState → Reply → Option LastRefusal → Type 0
RunReturns event status old new reply refusal =
    (RunsStep old event (record new { reply = reply; refusal = refusal }) × (status ≡ status_of reply)
    × (new.reply ≡ old.reply) × (new.refusal ≡ old.refusal))
    ⊎ ((status ≡ is.NO_MEMORY) × (new ≡ old) × (reply ≡ NoProcess) × (refusal ≡ Some NoMemory))

-- the call of a request is made; nothing is done if it has none
abbrev pub Runs : Option Step → ℤ → StoreState → StoreState → RequestState → RequestState → Type 0
Runs None status old new asked done = (status ≡ is.CLOSED) × (new ≡ old) × (done ≡ asked)
Runs (Some event) status old new asked done =
    RunReturns event status old new done.reply done.refusal × (done.event ≡ asked.event)

-- what a call on the handle of a request that reads a call does: a closed handle first gets an empty request, or stays
-- closed if memory runs out
abbrev pub HandleReads : (RequestState → ℤ → ℕ → RequestState → Type 0) → Option RequestState → ℤ → ℕ → Option RequestState → Type 0
HandleReads rule old status len new =
    ((read : RequestState) × (new ≡ Some read) × rule (unwrap_or old empty_request) status len read)
    ⊎ ((old ≡ None) × (new ≡ None) × (status ≡ is.NO_MEMORY) × (len ≡ 0))

-- The request of a handle is run on the store of another. If one of them is closed, both stay as they are.
abbrev pub HandleRuns : Option StoreState → Option StoreState → Option RequestState → Option RequestState → ℤ → Type 0
HandleRuns (Some old) new (Some asked) done status =
    (stored : StoreState) × (answered : RequestState)
    × (new ≡ Some stored) × (done ≡ Some answered) × Runs asked.event status old stored asked answered
HandleRuns (Some old) new None done status = (new ≡ Some old) × (done ≡ None) × (status ≡ is.CLOSED)
HandleRuns None new asked done status = (new ≡ None) × (done ≡ asked) × (status ≡ is.CLOSED)

-- the reply to the last call of a request that was run is returned, where a term has these bytes
abbrev pub WritesRequestReply : (Term → List ℕ) → Option RequestState → WrittenReply → Type 0
WritesRequestReply bytes_of None = WritesNothing is.CLOSED
WritesRequestReply bytes_of (Some request) = WritesReply bytes_of request.reply

-- the reason why the last call of a request was refused is returned
abbrev pub WritesRequestReason : Option RequestState → WrittenReply → Type 0
WritesRequestReason None = WritesNothing is.CLOSED
WritesRequestReason (Some request) = WritesReason request.refusal
