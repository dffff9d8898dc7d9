-- What passes through the streams of a script.
use Rattle.std.specs.Prelude.{ℕ, List, Option}
use Rattle.ets_packets.specs.Traffic.{Traffic, flow, traffic}
use Rattle.ets_script.specs.declared.streams.Streams.{Streams}

-- what passed through a script's streams from one state of them to another
abbrev pub flows : {R W : Type 0} → (R → Option (List ℕ)) → (W → Option (List ℕ)) → Streams R W → Streams R W → Traffic
flows remaining contents old new = traffic (flow remaining old.input new.input) (flow contents old.output new.output)
