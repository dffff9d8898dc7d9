use Rattle.std.proofs.Common.{◌≡◌, ◌++◌, drop}
use Rattle.counters.proofs.write.copy_specs.Given as goal

abbrev pub invariant-loop-spec : goal.invariant-loop-spec
invariant-loop-spec l = l.copies.items ++ drop l.spec-index l.specs ≡ l.fn.specs
