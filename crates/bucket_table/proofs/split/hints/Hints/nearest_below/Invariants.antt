use Rattle.std.proofs.Common.{◌≤◌}
use Rattle.bucket_table.proofs.split.hints.Hints.nearest_below.Given as goal

abbrev pub invariant-loop-lower : goal.invariant-loop-lower
invariant-loop-lower l = l.lower ≤ l.interval

abbrev pub decreases-loop-lower : goal.decreases-loop-lower
decreases-loop-lower l = l.lower
