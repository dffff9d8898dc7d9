-- A run of a store: requests, one after another, and the reply to each.
use Rattle.std.specs.Prelude.{◌≡◌, ℕ, ◌<◌, ◌^◌, List, [], ◌∷◌, ◌++◌, length}
use Rattle.node_text.specs.StoreState.{StoreState}
use Rattle.ets_packets.specs.Packets.{packet}
use Rattle.ets_packets.specs.Replies.{PacketReply, reply_body, AnswersBody}

-- the body of a request, and its reply
pub record Exchange : Type 0 where
  pub body : List ℕ
  pub reply : PacketReply

-- a request is answered, of which at most `most` bytes are allowed, and each body fits a packet
pub record IsExchange (most : ℕ) (old : StoreState) (e : Exchange) (new : StoreState) : Type 0 where
  pub answers : AnswersBody most e.body old e.reply new
  pub few : length e.body < 2 ^ 32
  pub fits : length (reply_body e.reply) < 2 ^ 32

-- each request is answered, from one state to the next
abbrev pub Run : ℕ → StoreState → List Exchange → StoreState → Type 0
Run most old [] new = new ≡ old
Run most old (e ∷ es) new = (mid : StoreState) × IsExchange most old e mid × Run most mid es new

-- the packets of the requests
abbrev pub requests : List Exchange → List ℕ
requests [] = []
requests (e ∷ es) = packet e.body ++ requests es

-- the packets of the replies
abbrev pub replies : List Exchange → List ℕ
replies [] = []
replies (e ∷ es) = packet (reply_body e.reply) ++ replies es
