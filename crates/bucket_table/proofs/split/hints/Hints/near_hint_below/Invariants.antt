use Rattle.std.proofs.Common.{◌≤◌}
use Rattle.bucket_table.proofs.split.hints.Hints.near_hint_below.Given as goal

abbrev pub invariant-loop-below : goal.invariant-loop-below
invariant-loop-below l = l.below ≤ l.interval

abbrev pub decreases-loop-below : goal.decreases-loop-below
decreases-loop-below l = l.below
