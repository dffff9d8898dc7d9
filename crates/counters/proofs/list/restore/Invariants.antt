use Rattle.std.proofs.Common.{◌≡◌, length}
use Rattle.counters.specs.inside.Lists.{restore}
use Rattle.counters.proofs.list.restore.Given as goal

abbrev pub invariant-loop-last : goal.invariant-loop-last
invariant-loop-last l = restore l.overwritten l.elements ≡ restore l.fn.overwritten l.fn.elements

abbrev pub decreases-loop-last : goal.decreases-loop-last
decreases-loop-last l = length l.overwritten
