pub mod KnownBytes
mod Exchanges
mod BufferedPackets
mod Progress
mod PacketRuns
