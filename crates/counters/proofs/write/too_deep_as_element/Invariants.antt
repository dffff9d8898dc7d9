use Rattle.std.proofs.Common.{◌≡◌, drop}
use Rattle.counters.specs.inside.Values.{too_deep_as_element}
use Rattle.counters.proofs.write.too_deep_as_element.Given as goal

abbrev pub invariant-loop-i : goal.invariant-loop-i
invariant-loop-i l = too_deep_as_element (drop l.i l.specs) ≡ too_deep_as_element l.specs
