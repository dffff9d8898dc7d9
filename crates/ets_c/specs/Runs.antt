-- The calls on a handle as a run.
use Rattle.std.specs.Prelude.{◌≡◌, ◌⊎◌, ℕ, ℤ, List, Option, Some, None, filter_map}
use Rattle.std.specs.List.{AllZip, FoldsTo}
use Rattle.std.specs.Map.{keys_of, values_of}
use Rattle.term_text.specs.Printed.{text_of_term}
use Rattle.external_term.specs.Encoding.{encode_with_version}
use Rattle.node_core.specs.declared.step.Step.{Step}
use Rattle.node_core.specs.declared.step.Step.TheVariants.{Ask}
use Rattle.node_core.specs.declared.step.Call.{Call}
use Rattle.node_core.specs.declared.step.Reply.{Reply}
use Rattle.node_core.specs.Machine.{run}
use Rattle.node_text.specs.ExternalCalls as external
use Rattle.node_text.specs.declared.external_call.ExternalCall.TheVariants as external_call
use Rattle.node_text.specs.Answers.{WrittenReply, status_of, WritesReply}
use Rattle.node_text.specs.Calls.{HandleSteps, HandleCalls, HandleCallsExternal}
use Rattle.node_text.specs.StoreState.{StoreState}
use Rattle.node_text.specs.Texts.{parse_call}
use Rattle.node_text.specs.declared.text_call.TextCall.TheVariants as parsed
use Rattle.node_text.specs.declared.status.TheConstants as is

-- A function of the library, and what it returned: a spawn or an exit, or a call by a text or by a term in the external
-- format.
pub data Event : Type 0 where
  stepped : Step → ℤ → Event
  called : ℕ → List ℕ → WrittenReply → Event
  called_external : ℕ → List ℕ → WrittenReply → Event

-- what the function does to what its handle has
abbrev pub Does : Option StoreState → Event → Option StoreState → Type 0
Does old (stepped event status) new = HandleSteps old event status new
Does old (called pid text t) new = HandleCalls old pid text new t
Does old (called_external pid bytes t) new = HandleCallsExternal old pid bytes new t

-- The function makes this step, and returns its reply. If it makes none, it returns that memory ran out, or that the
-- text or the bytes are not a call.
abbrev pub Makes : Event → Option (Step × Reply) → Type 0
Makes (stepped event status) (Some made) = (made.0 ≡ event) × (status ≡ status_of made.1)
Makes (called pid text t) (Some made) =
    (call : Call) × (made.0 ≡ Ask pid call) × (parse_call text ≡ parsed.Call call.name call.args)
    × WritesReply text_of_term made.1 t
Makes (called_external pid bytes t) (Some made) =
    (call : Call) × (made.0 ≡ Ask pid call) × (external.parse_call bytes ≡ external_call.Call call.name call.args)
    × WritesReply encode_with_version made.1 t
Makes (stepped event status) None = status ≡ is.NO_MEMORY
Makes (called pid text t) None = (t.status ≡ is.NO_MEMORY) ⊎ (t.status ≡ is.SYNTAX)
Makes (called_external pid bytes t) None = (t.status ≡ is.NO_MEMORY) ⊎ (t.status ≡ is.SYNTAX)

-- Functions that are called on an open handle, one after another, make the steps of a run, with its replies. The run is
-- from the node's state before them to the one after them.
abbrev pub StoreCallsAreRuns : Type 0
StoreCallsAreRuns =
    (old : StoreState) (events : List Event) (new : StoreState) → FoldsTo Does (Some old) events (Some new)
    → (made : List (Option (Step × Reply))) × AllZip Makes events made
    × run old.node (keys_of (filter_map (λ m. m) made)) (values_of (filter_map (λ m. m) made)) new.node
