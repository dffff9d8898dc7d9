use Rattle.std.proofs.Common.{◌≡◌}
use Rattle.bucket_table.specs.inside.Intervals.{HintsAreSound}
use Rattle.bucket_table.proofs.split.hints.Hints.rehash_pairs.Given as goal

abbrev pub invariant-loop-pair : goal.invariant-loop-pair
invariant-loop-pair l = record {
  hints : HintsAreSound l.self l.list.cells;
  interval_bits : l.self.interval_bits ≡ l.initial.self.interval_bits;
}
