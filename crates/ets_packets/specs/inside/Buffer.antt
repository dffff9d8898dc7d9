-- What private contracts say of the bytes that were read and not yet answered.
use Rattle.std.specs.Prelude.{◌≡◌, ℕ, ◌+◌, ◌^◌, ◌≤◌, ◌<◌, List, ◌++◌, length, take, slice_range}
use Rattle.std.specs.Io.KnownBytes.{Consumes, IsAtEnd, Keeps}
use Rattle.ets_packets.specs.Packets.{IsUnfinished, big4, packet}
use Rattle.ets_packets.specs.Traffic.{Flow}
use Rattle.ets_packets.specs.declared.buffer.RefillFault.{RefillFault}
use Rattle.ets_packets.specs.declared.buffer.RefillFault.TheVariants.{Read, Memory}
use Rattle.ets_packets.specs.declared.fault.PacketFault.{PacketFault}
use Rattle.ets_packets.specs.declared.fault.PacketFault.TheVariants as faults
use Rattle.ets_packets.specs.declared.front.Front.{Front}
use Rattle.ets_packets.specs.declared.front.Front.TheVariants.{Incomplete, TooLong, Packet}

-- one read returned `count` bytes, 0 only at the end of the input, and they are buffered after the others
pub record Refills (old new : List ℕ) (reader : Flow) (count : ℕ) : Type 0 where
  pub more : List ℕ
  pub counted : length more ≡ count
  pub added : new ≡ old ++ more
  pub consumed : Consumes reader.before reader.after more
  pub end : count ≡ 0 → IsAtEnd reader.after

-- the reader failed and kept its bytes, or memory ran out for those that it gave
abbrev pub RefillStops : Flow → RefillFault → Type 0
RefillStops reader Read = Keeps reader.before reader.after
RefillStops reader Memory = (more : List ℕ) × Consumes reader.before reader.after more

-- the packet whose body has this length, at most `most`, begins the bytes
pub record BeginsWith (most : ℕ) (bytes : List ℕ) (len : ℕ) : Type 0 where
  pub within : len + 4 ≤ length bytes
  pub allowed : len ≤ most
  pub few : len < 2 ^ 32
  pub is_packet : take (len + 4) bytes ≡ packet (slice_range bytes 4 (len + 4))

-- the length of a body begins the bytes, and it is over `most`
pub record BeginsTooLong (most : ℕ) (bytes : List ℕ) (len : ℕ) : Type 0 where
  pub within : 4 ≤ length bytes
  pub long : most < len
  pub few : len < 2 ^ 32
  pub is_length : take 4 bytes ≡ big4 len

-- what bytes begin with
abbrev pub IsFront : ℕ → List ℕ → Front → Type 0
IsFront most bytes Incomplete = IsUnfinished bytes
IsFront most bytes (TooLong len) = BeginsTooLong most bytes len
IsFront most bytes (Packet len) = BeginsWith most bytes len

-- why the run stops then
abbrev pub fault_of : RefillFault → PacketFault
fault_of Read = faults.Read
fault_of Memory = faults.Memory
