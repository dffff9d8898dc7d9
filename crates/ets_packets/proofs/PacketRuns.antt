-- Requests make a run.
use Rattle.std.proofs.Common.{◌≡◌, ◌⊎◌, inl, inr, ℕ, List, [], ◌∷◌, Option, Some, None, refl, ap, subst, zip, filter_map}
use Rattle.std.specs.List.{cons_option}
use Rattle.node_core.specs.declared.step.Step.{Step}
use Rattle.node_core.specs.declared.step.Step.TheVariants.{Enrol, End, Ask}
use Rattle.node_core.specs.declared.step.Reply.{Reply}
use Rattle.node_core.specs.State.{State}
use Rattle.node_core.specs.Machine.{step, run}
use Rattle.node_text.specs.ExternalCalls.{parse_call}
use Rattle.node_text.specs.declared.external_call.ExternalCall.{ExternalCall}
use Rattle.node_text.specs.declared.external_call.ExternalCall.TheVariants as parsed
use Rattle.node_text.specs.StoreState.{StoreState}
use Rattle.ets_packets.specs.Requests.{parse_request, call_bytes}
use Rattle.ets_packets.specs.Replies.{RunsOut, Steps, Calls, AnswersRequest, AnswersBody}
use Rattle.ets_packets.specs.Exchanges.{Exchange}
use Rattle.ets_packets.specs.Runs.{Asks, Makes, PacketsAreRuns}
use Rattle.ets_packets.specs.declared.request.Request.{Request}
use Rattle.ets_packets.specs.declared.request.Request.TheVariants as request

-- a run of at most one step
abbrev Runs : State → Option (Step × Reply) → State → Type 0
Runs old None new = new ≡ old
Runs old (Some made) new = step old made.0 made.1 new

-- what a request did
record Did (most : ℕ) (old : StoreState) (e : Exchange) (new : StoreState) : Type 0 where
  made : Option (Step × Reply)
  makes : Makes most e made
  runs : Runs old.node made new.node

module _ (most : ℕ) (old : StoreState) (e : Exchange) (new : StoreState) (answers : AnswersBody most e.body old e.reply new) where
  -- it made no step
  kept : new.node ≡ old.node → (e.reply.status ≡ 4) ⊎ (e.reply.status ≡ 5) → Did most old e new
  kept same status = record { made = None; makes = (old, new, answers, status); runs = same }

  ran-out : RunsOut old e.reply new → Did most old e new
  ran-out (same, replied) = kept (ap (λ (s : StoreState). s.node) same) (inl replied.0)

  stepped : (event : Step) → Asks e.body event → Steps event old e.reply new → Did most old e new
  stepped event asks (inl (ran, is)) = record { made = Some (event, new.reply); makes = (new.refusal, asks, is); runs = ran.0 }
  stepped event asks (inr out) = ran-out out

  called : (call : ExternalCall) (p : ℕ) → parse_request e.body ≡ request.Call p → parse_call (call_bytes e.body) ≡ call → Calls call p old e.reply new → Did most old e new
  called (parsed.Call name args) p asked is h = stepped (Ask p (record { name = name; args = args })) (asked, is) h
  called (parsed.Faulty problem at) p asked is (inl (same, replied)) = kept (ap (λ (s : StoreState). s.node) same) (inr replied.0)
  called (parsed.Faulty problem at) p asked is (inr out) = ran-out out

  requested : (q : Request) → parse_request e.body ≡ q → AnswersRequest q (call_bytes e.body) old e.reply new → Did most old e new
  requested (request.Spawn p) is h = stepped (Enrol p) is h
  requested (request.Exit p) is h = stepped (End p) is h
  requested (request.Call p) is h = called (parse_call (call_bytes e.body)) p is refl h
  requested request.NotARequest is (same, replied) = kept (ap (λ (s : StoreState). s.node) same) (inr replied.0)

did : (most : ℕ) (old : StoreState) (e : Exchange) (new : StoreState) → AnswersBody most e.body old e.reply new → Did most old e new
did most old e new (inl (short, h)) = requested most old e new (inl (short, h)) (parse_request e.body) refl h
did most old e new (inr (long, (same, replied))) = kept most old e new (inr (long, (same, replied))) (ap (λ (s : StoreState). s.node) same) (inr replied.0)

-- a run goes on after at most one step
record Front (first : Option (Step × Reply)) (old new : State) (rest : List (Step × Reply)) : Type 0 where
  steps : List Step
  replies : List Reply
  made : cons_option first rest ≡ zip steps replies
  runs : run old steps replies new

front : (made : Option (Step × Reply)) (old mid new : State) (steps : List Step) (replies : List Reply) (rest : List (Step × Reply)) → Runs old made mid → rest ≡ zip steps replies → run mid steps replies new → Front made old new rest
front None old mid new steps replies rest same is done = record { steps = steps; replies = replies; made = is; runs = subst (λ (s : State). run s steps replies new) same done }
front (Some made) old mid new steps replies rest did is done = record { steps = made.0 ∷ steps; replies = made.1 ∷ replies; made = ap (λ k. made ∷ k) is; runs = (mid, did, done) }

pub packets-are-runs : PacketsAreRuns
packets-are-runs most old [] new same = ([], [], [], tt, refl, ap (λ (s : StoreState). s.node) same)
packets-are-runs most old (e ∷ exchanges) new (mid, x, more) =
    let (made, steps, replies, each, all, done) = packets-are-runs most mid exchanges new more in
    let first = did most old e mid x.answers in
    let joined = front first.made old.node mid.node new.node steps replies (filter_map (λ m. m) made) first.runs all done in
    (first.made ∷ made, joined.steps, joined.replies, (first.makes, each), joined.made, joined.runs)
