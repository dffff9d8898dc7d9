use Rattle.std.proofs.Common.{◌≡◌, ◌≤◌, drop, length}
use Rattle.external_term.specs.Integers.{little}
use Rattle.external_term.proofs.integer.little_value.Given as goal

abbrev pub invariant-loop-left : goal.invariant-loop-left
invariant-loop-left l = record {
  within : l.left ≤ length l.digits;
  value : l.value ≡ little (drop l.left l.digits);
}

abbrev pub decreases-loop-left : goal.decreases-loop-left
decreases-loop-left l = l.left
