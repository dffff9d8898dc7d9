-- The replies to packets as the replies of a run.
use Rattle.std.specs.Prelude.{◌≡◌, ◌⊎◌, ℕ, List, Option, Some, None, zip, filter_map}
use Rattle.std.specs.List.{AllZip}
use Rattle.node_core.specs.declared.step.Step.{Step}
use Rattle.node_core.specs.declared.step.Step.TheVariants.{Enrol, End, Ask}
use Rattle.node_core.specs.declared.step.Reply.{Reply}
use Rattle.node_core.specs.Machine.{run}
use Rattle.node_text.specs.ExternalCalls.{parse_call}
use Rattle.node_text.specs.declared.external_call.ExternalCall.TheVariants as parsed
use Rattle.node_text.specs.StoreState.{StoreState}
use Rattle.node_text.specs.declared.last_refusal.LastRefusal.{LastRefusal}
use Rattle.ets_packets.specs.Requests.{parse_request, call_bytes}
use Rattle.ets_packets.specs.Replies.{IsReplyOf, AnswersBody}
use Rattle.ets_packets.specs.Exchanges.{Exchange, Run}
use Rattle.ets_packets.specs.declared.request.Request.TheVariants as request

-- the body of a packet asks for this step
abbrev pub Asks : List ℕ → Step → Type 0
Asks body (Enrol p) = parse_request body ≡ request.Spawn p
Asks body (End p) = parse_request body ≡ request.Exit p
Asks body (Ask p call) =
    (parse_request body ≡ request.Call p) × (parse_call (call_bytes body) ≡ parsed.Call call.name call.args)
Asks body _ = ⊥

-- The request makes this step, and has its reply, with some reason if the step is refused. If it makes no step, its
-- reply is one that it has in some state: that memory ran out, with the status 4, or that it is no request or no call,
-- with the status 5.
abbrev pub Makes : ℕ → Exchange → Option (Step × Reply) → Type 0
Makes most e (Some made) = (why : Option LastRefusal) × Asks e.body made.0 × IsReplyOf made.1 why e.reply
Makes most e None =
    (old : StoreState) × (new : StoreState) × AnswersBody most e.body old e.reply new
    × ((e.reply.status ≡ 4) ⊎ (e.reply.status ≡ 5))

-- Requests that are answered one after another make the steps of a run, with its replies. The run is from the node's
-- state before them to the one after them.
abbrev pub PacketsAreRuns : Type 0
PacketsAreRuns =
    (most : ℕ) (old : StoreState) (exchanges : List Exchange) (new : StoreState) → Run most old exchanges new
    → (made : List (Option (Step × Reply))) × (steps : List Step) × (replies : List Reply)
    × AllZip (Makes most) exchanges made × (filter_map (λ m. m) made ≡ zip steps replies)
    × run old.node steps replies new.node
