-- What private contracts say of packets that are answered.
use Rattle.std.specs.Prelude.{◌≡◌, ◌⊎◌, ◌+◌, ◌<◌, ◌^◌, List, [], ◌++◌, length, ℕ, Result, Ok, Err}
use Rattle.node_text.specs.StoreState.{StoreState}
use Rattle.ets_packets.specs.Packets.{IsUnfinished, big4, packet}
use Rattle.ets_packets.specs.Replies.{PacketReply, reply_body, Answers}
use Rattle.ets_packets.specs.Exchanges.{Exchange, Run, requests, replies}
use Rattle.ets_packets.specs.Traffic.{Flow}
use Rattle.ets_packets.specs.Output.{Sends, Breaks}
use Rattle.ets_packets.specs.declared.fault.PacketFault.{PacketFault}
use Rattle.ets_packets.specs.declared.fault.PacketFault.TheVariants.{Truncated}

-- a body is answered, and its reply's packet is added to the output, of which this waited before and waits after
pub record AnswersPacket (writer : Flow) (before after body : List ℕ) (old new : StoreState) : Type 0 where
  pub reply : PacketReply
  pub answers : Answers body old reply new
  pub fits : length (reply_body reply) < 2 ^ 32
  pub adds : Sends writer (before ++ packet (reply_body reply)) after

-- the same, and the writer failed
pub record BreaksPacket (writer : Flow) (before body : List ℕ) (old new : StoreState) : Type 0 where
  pub reply : PacketReply
  pub answers : Answers body old reply new
  pub fits : length (reply_body reply) < 2 ^ 32
  pub breaks : Breaks writer (before ++ packet (reply_body reply))

-- A part of a packet was read whose body has over `most` bytes, and the next `left` bytes are the rest of it. If `left`
-- is 0, no such part was read.
abbrev pub IsSkipped : ℕ → List ℕ → ℕ → Type 0
IsSkipped most part left =
    ((left ≡ 0) × (part ≡ []))
    ⊎ ((some : List ℕ) × (part ≡ big4 (length some + left) ++ some) × (most < length some + left)
    × (length some + left < 2 ^ 32) × (0 < left))

-- whole packets are answered; after them a part of a packet was read, which is skipped, and then the rest
pub record AnswersPackets (most : ℕ) (writer : Flow) (before after bytes rest : List ℕ) (left : ℕ) (old new : StoreState) : Type 0 where
  pub exchanges : List Exchange
  pub part : List ℕ
  pub run : Run most old exchanges new
  pub parts : bytes ≡ requests exchanges ++ (part ++ rest)
  pub adds : Sends writer (before ++ replies exchanges) after
  pub skipped : IsSkipped most part left

-- the same, and the writer failed
pub record BreaksPackets (most : ℕ) (writer : Flow) (before bytes : List ℕ) (old : StoreState) : Type 0 where
  pub exchanges : List Exchange
  pub end : StoreState
  pub rest : List ℕ
  pub run : Run most old exchanges end
  pub parts : bytes ≡ requests exchanges ++ rest
  pub breaks : Breaks writer (before ++ replies exchanges)

-- all whole packets are answered
pub record AnswersAllPackets (most : ℕ) (writer : Flow) (before after bytes rest : List ℕ) (left : ℕ) (old new : StoreState) : Type 0 where
  pub answered : AnswersPackets most writer before after bytes rest left old new
  pub unfinished : IsUnfinished (answered.part ++ rest)

-- the end of the input after this part of a packet, of which `left` bytes would have been skipped
abbrev pub EndsAfter : ℕ → List ℕ → Result (Unit {0}) PacketFault → Type 0
EndsAfter left part (Ok done) = (left ≡ 0) × (part ≡ [])
EndsAfter left part (Err fault) = (fault ≡ Truncated) × ((0 < left) ⊎ (0 < length part))
