-- The calls on a handle make a run.
use Rattle.std.proofs.Common.{◌≡◌, inl, inr, ℕ, ℤ, List, [], ◌∷◌, Option, Some, None, refl, sym, ap, ◌∙◌, subst, filter_map}
use Rattle.std.specs.List.{AllZip, FoldsTo}
use Rattle.std.specs.Map.{keys_of, values_of}
use Rattle.node_core.specs.declared.step.Step.{Step}
use Rattle.node_core.specs.declared.step.Step.TheVariants.{Ask}
use Rattle.node_core.specs.declared.step.Reply.{Reply}
use Rattle.node_core.specs.State.{State}
use Rattle.node_core.specs.Machine.{step, run}
use Rattle.node_text.specs.ExternalCalls as external
use Rattle.node_text.specs.declared.external_call.ExternalCall.{ExternalCall}
use Rattle.node_text.specs.declared.external_call.ExternalCall.TheVariants as external_call
use Rattle.node_text.specs.Answers.{WrittenReply}
use Rattle.node_text.specs.Calls.{StepReturns, CallReturns, ExternalCallReturns}
use Rattle.node_text.specs.StoreState.{StoreState}
use Rattle.node_text.specs.Texts.{parse_call}
use Rattle.node_text.specs.declared.text_call.TextCall.{TextCall}
use Rattle.node_text.specs.declared.text_call.TextCall.TheVariants as parsed
use Rattle.ets_c.specs.Runs.{Event, stepped, called, called_external, Does, Makes, StoreCallsAreRuns}

-- a run of at most one step
abbrev Runs : State → Option (Step × Reply) → State → Type 0
Runs old None new = new ≡ old
Runs old (Some made) new = step old made.0 made.1 new

-- what a function did
record Did (old : StoreState) (e : Event) (new : StoreState) : Type 0 where
  made : Option (Step × Reply)
  makes : Makes e made
  runs : Runs old.node made new.node

did-step : (event : Step) (status : ℤ) (old mid : StoreState) → StepReturns event status old mid → Did old (stepped event status) mid
did-step event status old mid (inl (ran, is)) = record { made = Some (event, mid.reply); makes = (refl, is); runs = ran.0 }
did-step event status old mid (inr (is, same)) = record { made = None; makes = is; runs = ap (λ (s : StoreState). s.node) same }

did-call : (c : TextCall) (pid : ℕ) (text : List ℕ) (t : WrittenReply) (old mid : StoreState) → parse_call text ≡ c → CallReturns text c pid t old mid → Did old (called pid text t) mid
did-call (parsed.Call name args) pid text t old mid e (inl (ran, writes)) =
    record { made = Some (Ask pid (record { name = name; args = args }), mid.reply); makes = (record { name = name; args = args }, refl, e, writes); runs = ran.0 }
did-call (parsed.Call name args) pid text t old mid e (inr (same, writes)) = record { made = None; makes = inl writes.0; runs = ap (λ (s : StoreState). s.node) same }
did-call (parsed.Faulty at) pid text t old mid e (inl (same, writes)) = record { made = None; makes = inr writes.0; runs = ap (λ (s : StoreState). s.node) same }
did-call (parsed.Faulty at) pid text t old mid e (inr (same, writes)) = record { made = None; makes = inl writes.0; runs = ap (λ (s : StoreState). s.node) same }

did-external : (c : ExternalCall) (pid : ℕ) (bytes : List ℕ) (t : WrittenReply) (old mid : StoreState) → external.parse_call bytes ≡ c → ExternalCallReturns c pid t old mid → Did old (called_external pid bytes t) mid
did-external (external_call.Call name args) pid bytes t old mid e (inl (ran, writes)) =
    record { made = Some (Ask pid (record { name = name; args = args }), mid.reply); makes = (record { name = name; args = args }, refl, e, writes); runs = ran.0 }
did-external (external_call.Call name args) pid bytes t old mid e (inr (same, writes)) = record { made = None; makes = inl writes.0; runs = ap (λ (s : StoreState). s.node) same }
did-external (external_call.Faulty problem at) pid bytes t old mid e (inl (same, writes)) = record { made = None; makes = inr writes.0; runs = ap (λ (s : StoreState). s.node) same }
did-external (external_call.Faulty problem at) pid bytes t old mid e (inr (same, writes)) = record { made = None; makes = inl writes.0; runs = ap (λ (s : StoreState). s.node) same }

-- these steps were made, with their replies, and are a run
abbrev RunMade : State → List (Option (Step × Reply)) → State → Type 0
RunMade old made new = run old (keys_of (filter_map (λ m. m) made)) (values_of (filter_map (λ m. m) made)) new

-- at most one step comes before others
first-made : (first : Option (Step × Reply)) (old mid new : State) (made : List (Option (Step × Reply))) → Runs old first mid → RunMade mid made new → RunMade old (first ∷ made) new
first-made None old mid new made same more = subst (λ (s : State). RunMade s made new) same more
first-made (Some done) old mid new made did more = (mid, did, more)

-- what a function did on an open handle, which stays open
record DidOpen (old : StoreState) (e : Event) (new : Option StoreState) : Type 0 where
  stored : StoreState
  held : new ≡ Some stored
  did : Did old e stored

did-event : (e : Event) (old : StoreState) (new : Option StoreState) → Does (Some old) e new → DidOpen old e new
did-event (stepped event status) old new (mid, is, did) = record { stored = mid; held = is; did = did-step event status old mid did }
did-event (called pid text t) old new (mid, is, did) = record { stored = mid; held = is; did = did-call (parse_call text) pid text t old mid refl did }
did-event (called_external pid bytes t) old new (mid, is, did) = record { stored = mid; held = is; did = did-external (external.parse_call bytes) pid bytes t old mid refl did }

abbrev node-of : Option StoreState → State → State
node-of None s = s
node-of (Some x) s = x.node

abbrev AreRun : StoreState → List Event → StoreState → Type 0
AreRun old events new = (made : List (Option (Step × Reply))) × AllZip Makes events made × RunMade old.node made new.node

events-run : (o : Option StoreState) (old : StoreState) (events : List Event) (new : StoreState) → o ≡ Some old → FoldsTo Does o events (Some new) → AreRun old events new
events-run o old [] new is same = ([], tt, ap (λ (x : Option StoreState). node-of x old.node) (sym same ∙ is))
events-run o old (e ∷ events) new is (mid, does, more) =
    let opened = did-event e old mid (subst (λ (x : Option StoreState). Does x e mid) is does) in
    let (made, each, runs) = events-run mid opened.stored events new opened.held more in
    (opened.did.made ∷ made, (opened.did.makes, each), first-made opened.did.made old.node opened.stored.node new.node made opened.did.runs runs)

pub store-calls-are-runs : StoreCallsAreRuns
store-calls-are-runs old events new does = events-run (Some old) old events new refl does
