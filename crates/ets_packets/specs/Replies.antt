-- The reply to a request. Its body is a status, a byte, and the rest.
use Rattle.std.specs.Prelude.{◌≡◌, ◌⊎◌, ℕ, ◌≤◌, ◌<◌, List, [], ◌∷◌, length, Option, Some, None, codes}
use Rattle.external_term.specs.Encoding.{encode_with_version}
use Rattle.node_core.specs.declared.step.Reply.{Reply}
use Rattle.node_core.specs.declared.step.Reply.TheVariants.{Value, Badarg, SystemLimit, NoProcess}
use Rattle.node_core.specs.declared.step.Step.{Step}
use Rattle.node_core.specs.declared.step.Step.TheVariants.{Enrol, End, Ask}
use Rattle.node_text.specs.ExternalCalls.{parse_call}
use Rattle.node_text.specs.declared.external_call.ExternalCall.{ExternalCall}
use Rattle.node_text.specs.declared.external_call.ExternalCall.TheVariants as parsed
use Rattle.node_text.specs.Answers.{refusal_text}
use Rattle.node_text.specs.Calls.{RunsStep}
use Rattle.node_text.specs.StoreState.{StoreState, with_refusal}
use Rattle.node_text.specs.declared.last_refusal.LastRefusal.{LastRefusal}
use Rattle.node_text.specs.declared.last_refusal.LastRefusal.TheVariants.{External, NoMemory}
use Rattle.ets_packets.specs.Requests.{parse_request, call_bytes}
use Rattle.ets_packets.specs.declared.request.Request.{Request}
use Rattle.ets_packets.specs.declared.request.Request.TheVariants as request

-- the status of a reply and the rest of its body
pub record PacketReply : Type 0 where
  pub status : ℕ
  pub rest : List ℕ

abbrev pub packet_reply : ℕ → List ℕ → PacketReply
packet_reply status rest = record { status = status; rest = rest }

abbrev pub reply_body : PacketReply → List ℕ
reply_body r = r.status ∷ r.rest

-- a reply with this status and this text, or without the text if there is no memory for it
abbrev pub IsTextReply : ℕ → List ℕ → PacketReply → Type 0
IsTextReply status text r = (r.status ≡ status) × ((r.rest ≡ text) ⊎ (r.rest ≡ []))

abbrev pub reason_text : Option LastRefusal → List ℕ
reason_text None = []
reason_text (Some refusal) = refusal_text refusal

-- The reply to a step. For a value, it has the term in the external format; or the status is 7, if memory ran out or
-- the term has too many bytes. For a refusal, it has the reason.
abbrev pub IsReplyOf : Reply → Option LastRefusal → PacketReply → Type 0
IsReplyOf (Value t) why r = (r ≡ packet_reply 0 (encode_with_version t)) ⊎ (r ≡ packet_reply 7 [])
IsReplyOf Badarg why r = IsTextReply 1 (reason_text why) r
IsReplyOf SystemLimit why r = IsTextReply 2 (reason_text why) r
IsReplyOf NoProcess why r = IsTextReply 3 (reason_text why) r

-- memory ran out, and only the reason of the refusal changes
abbrev pub RunsOut : StoreState → PacketReply → StoreState → Type 0
RunsOut old r new = (new ≡ with_refusal NoMemory old) × IsTextReply 4 (codes "out of memory") r

-- a step is run, and its reply is returned
abbrev pub Steps : Step → StoreState → PacketReply → StoreState → Type 0
Steps event old r new = (RunsStep old event new × IsReplyOf new.reply new.refusal r) ⊎ RunsOut old r new

-- bytes that are not a call are refused with this reason, which is all that changes
abbrev pub RefusesCall : LastRefusal → StoreState → PacketReply → StoreState → Type 0
RefusesCall why old r new = ((new ≡ with_refusal why old) × IsTextReply 5 (refusal_text why) r) ⊎ RunsOut old r new

-- a call is made; or bytes that are not a call are refused
abbrev pub Calls : ExternalCall → ℕ → StoreState → PacketReply → StoreState → Type 0
Calls (parsed.Call name args) pid = Steps (Ask pid (record { name = name; args = args }))
Calls (parsed.Faulty problem at) pid = RefusesCall (External problem)

-- a body that is not a request is refused, and changes nothing
abbrev pub RefusesRequest : StoreState → PacketReply → StoreState → Type 0
RefusesRequest old r new = (new ≡ old) × IsTextReply 5 (codes "not a request") r

-- the answer to a request; a call has these bytes
abbrev pub AnswersRequest : Request → List ℕ → StoreState → PacketReply → StoreState → Type 0
AnswersRequest (request.Spawn pid) bytes = Steps (Enrol pid)
AnswersRequest (request.Exit pid) bytes = Steps (End pid)
AnswersRequest (request.Call pid) bytes = Calls (parse_call bytes) pid
AnswersRequest request.NotARequest bytes = RefusesRequest

-- the answer to a body that is not too long
abbrev pub Answers : List ℕ → StoreState → PacketReply → StoreState → Type 0
Answers body = AnswersRequest (parse_request body) (call_bytes body)

-- a body that is too long is refused, and changes nothing
abbrev pub RefusesTooLong : StoreState → PacketReply → StoreState → Type 0
RefusesTooLong old r new = (new ≡ old) × IsTextReply 5 (codes "the packet is too long") r

-- the answer to the body of a packet, of which at most `most` bytes are allowed
abbrev pub AnswersBody : ℕ → List ℕ → StoreState → PacketReply → StoreState → Type 0
AnswersBody most body old r new =
    ((length body ≤ most) × Answers body old r new) ⊎ ((most < length body) × RefusesTooLong old r new)
