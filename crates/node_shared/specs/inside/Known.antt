-- The processes of a history are known to the node.
use Rattle.std.specs.Prelude.{◌≡◌, ℕ, false, List, [], is_some}
use Rattle.ownership.specs.World.{process_at}
use Rattle.node_core.specs.State.{State}
use Rattle.node_shared.specs.declared.entry.Entry.{Entry}
use Rattle.node_shared.specs.Journal.{entries_of}

-- a process that the node does not know has no entry
abbrev pub AreKnown : List Entry → State → Type 0
AreKnown entries s = (p : ℕ) → is_some (process_at s.world.processes p) ≡ false → entries_of p entries ≡ []
