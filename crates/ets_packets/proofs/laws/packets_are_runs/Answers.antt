use Rattle.ets_packets.proofs.PacketRuns.{packets-are-runs}
use Rattle.ets_packets.proofs.laws.packets_are_runs.Goals as goal

pub returns : goal.returns
returns c = packets-are-runs
