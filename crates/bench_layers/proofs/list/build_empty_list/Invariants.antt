use Rattle.std.proofs.Common.{◌≡◌, ◌+◌, ◌≤◌, length, vec_len, vec_capacity}
use Rattle.bench_layers.specs.Buckets.{HasDummies}
use Rattle.bench_layers.proofs.list.build_empty_list.Given as goal

abbrev pub invariant-loop-bucket : goal.invariant-loop-bucket
invariant-loop-bucket l = record {
  dummies : HasDummies l.list.dummies.items l.list.list.cells;
  len : vec_len l.list.dummies ≡ l._bucket;
  capacity : l.buckets ≤ vec_capacity l.list.dummies;
  room : length l.list.list.cells + l.item_count ≤ l.list.list.capacity;
}
