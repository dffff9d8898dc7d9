use Rattle.std.proofs.Common.{◌≡◌, ◌-◌, take, length}
use Rattle.ownership.specs.World.{Processes}
use Rattle.ownership.specs.inside.Ending.{after_transfers}
use Rattle.ownership.proofs.world.end.unpost_all.Given as goal

abbrev pub invariant-loop-i : goal.invariant-loop-i
invariant-loop-i g l = (before : Processes) → l.fn.processes.entries ≡ after_transfers before l.pid l.tables l.ids → l.processes.entries ≡ after_transfers before l.pid l.tables (take (length l.ids - l.i) l.ids)
