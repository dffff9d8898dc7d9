use Rattle.std.proofs.Common.{◌≡◌, take}
use Rattle.ownership.specs.inside.Ending.{after_transfers}
use Rattle.ownership.proofs.world.end.post_all.Given as goal

abbrev pub invariant-loop-i : goal.invariant-loop-i
invariant-loop-i g l = l.processes.entries ≡ after_transfers l.fn.processes.entries l.pid l.tables (take l.i l.ids)
