use Rattle.std.proofs.Common.{◌≡◌, ◌++◌, drop}
use Rattle.match_spec.proofs.expression.lists.copies_from.Given as goal

abbrev pub invariant-loop-i : goal.invariant-loop-i
invariant-loop-i l = l.copies.items ++ drop l.i l.items ≡ drop l.start l.items
