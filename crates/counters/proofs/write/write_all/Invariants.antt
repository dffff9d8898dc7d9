use Rattle.std.proofs.Common.{◌≡◌, length, reverse}
use Rattle.counters.specs.inside.Values.{write_each}
use Rattle.counters.proofs.write.write_all.Given as goal

abbrev pub invariant-loop-first : goal.invariant-loop-first
invariant-loop-first l = write_each (reverse l.specs.items) l.elements ≡ write_each l.fn.specs.items l.fn.elements

abbrev pub decreases-loop-first : goal.decreases-loop-first
decreases-loop-first l = length l.specs.items
