-- What was read and written when a run of packets ends.
use Rattle.std.specs.Prelude.{◌≡◌, ◌⊎◌, ℕ, ◌<◌, List, [], ◌++◌, length}
use Rattle.std.specs.Io.KnownBytes.{Appends, Consumes, IsAtEnd}
use Rattle.node_core.specs.declared.limits.Limits.{Limits}
use Rattle.node_text.specs.Calls.{new_store}
use Rattle.node_text.specs.StoreState.{StoreState}
use Rattle.ets_packets.specs.Packets.{IsUnfinished}
use Rattle.ets_packets.specs.Exchanges.{Exchange, Run, requests, replies}
use Rattle.ets_packets.specs.Traffic.{Traffic}
use Rattle.ets_packets.specs.declared.fault.PacketFault.{PacketFault}
use Rattle.ets_packets.specs.declared.fault.PacketFault.TheVariants.{Read, Write, Memory, Truncated}

-- whole packets were read, and then these further bytes; all packets were answered in a run of the store, which allows
-- bodies of at most `most` bytes, and all replies were written
pub record AnswersAll (most : ℕ) (start : StoreState) (t : Traffic) (rest : List ℕ) : Type 0 where
  pub exchanges : List Exchange
  pub end : StoreState
  pub run : Run most start exchanges end
  pub consumed : Consumes t.reader.before t.reader.after (requests exchanges ++ rest)
  pub written : Appends t.writer.before t.writer.after (replies exchanges)

-- the same, if only a prefix of the replies was written
pub record WritesPrefix (most : ℕ) (start : StoreState) (t : Traffic) : Type 0 where
  pub exchanges : List Exchange
  pub end : StoreState
  pub rest : List ℕ
  pub sent : List ℕ
  pub unsent : List ℕ
  pub run : Run most start exchanges end
  pub consumed : Consumes t.reader.before t.reader.after (requests exchanges ++ rest)
  pub written : Appends t.writer.before t.writer.after sent
  pub parts : replies exchanges ≡ sent ++ unsent

-- the whole input is packets, and all of them were answered
abbrev pub Completes : ℕ → StoreState → Traffic → Type 0
Completes most start t = AnswersAll most start t [] × IsAtEnd t.reader.after

-- At a read fault or out of memory all whole packets that were read are answered, and all replies are written. A part
-- of a packet, or what there was no memory for, is not answered. At a write fault a prefix of the replies is written,
-- and packets that were read may be left without an answer.
abbrev pub Stops : ℕ → StoreState → Traffic → PacketFault → Type 0
Stops most start t Read = (part : List ℕ) × AnswersAll most start t part × IsUnfinished part
Stops most start t Write = WritesPrefix most start t
Stops most start t Memory = (rest : List ℕ) × AnswersAll most start t rest
Stops most start t Truncated =
    (part : List ℕ) × AnswersAll most start t part × IsUnfinished part × (0 < length part) × IsAtEnd t.reader.after

-- the program's status after a run of a new store: 0 if it reached the end of the input, else 1
abbrev pub PacketsEnd : ℕ → Limits → Traffic → ℕ → Type 0
PacketsEnd most limits t status =
    ((status ≡ 0) × Completes most (new_store limits) t)
    ⊎ ((status ≡ 1) × (fault : PacketFault) × Stops most (new_store limits) t fault)
