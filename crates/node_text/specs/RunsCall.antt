-- What a call by a text, or by the bytes of a term, does before its reply is written.
use Rattle.std.specs.Prelude.{◌≡◌, ℕ, List, Result, Ok, Err}
use Rattle.ets_term.specs.declared.term.Term.{Term}
use Rattle.node_core.specs.declared.step.Step.TheVariants.{Ask}
use Rattle.node_text.specs.declared.external_call.ExternalCall.{ExternalCall}
use Rattle.node_text.specs.declared.external_call.ExternalCall.TheVariants as external_call
use Rattle.node_reasons.specs.SyntaxProblems.{diagnose_in_call}
use Rattle.node_text.specs.StoreState.{StoreState, with_refusal}
use Rattle.node_text.specs.Calls.{RunsStep}
use Rattle.node_text.specs.declared.text_call.TextCall.{TextCall}
use Rattle.node_text.specs.declared.text_call.TextCall.TheVariants.{Call, Faulty}
use Rattle.node_text.specs.declared.last_refusal.LastRefusal.{LastRefusal}
use Rattle.node_text.specs.declared.last_refusal.LastRefusal.TheVariants as refusal
use Rattle.node_text.specs.declared.call_fault.CallFault.{CallFault}
use Rattle.node_text.specs.declared.call_fault.CallFault.TheVariants.{Syntax, Memory}

-- the call is made, or memory runs out for it
abbrev pub RunsAsk : ℕ → List ℕ → List Term → StoreState → Result (Unit {0}) CallFault → StoreState → Type 0
RunsAsk pid name args old (Ok done) new = RunsStep old (Ask pid (record { name = name; args = args })) new
RunsAsk pid name args old (Err (Syntax at)) new = ⊥
RunsAsk pid name args old (Err Memory) new = new ≡ with_refusal refusal.NoMemory old

-- a text or bytes that are not a call: the refusal is this one, and the fault is at this offset; or memory runs out
abbrev pub RunsFault : LastRefusal → ℕ → StoreState → Result (Unit {0}) CallFault → StoreState → Type 0
RunsFault why wanted old (Ok done) new = ⊥
RunsFault why wanted old (Err (Syntax at)) new = (at ≡ wanted) × (new ≡ with_refusal why old)
RunsFault why wanted old (Err Memory) new = new ≡ with_refusal refusal.NoMemory old

-- what a call by a text does
abbrev pub RunsCall : List ℕ → TextCall → ℕ → StoreState → Result (Unit {0}) CallFault → StoreState → Type 0
RunsCall text (Call name args) pid = RunsAsk pid name args
RunsCall text (Faulty at) pid = RunsFault (refusal.Syntax (diagnose_in_call text at)) at

-- what a call by a term in the external format does
abbrev pub RunsExternalCall : ExternalCall → ℕ → StoreState → Result (Unit {0}) CallFault → StoreState → Type 0
RunsExternalCall (external_call.Call name args) pid = RunsAsk pid name args
RunsExternalCall (external_call.Faulty problem at) pid = RunsFault (refusal.External problem) at
