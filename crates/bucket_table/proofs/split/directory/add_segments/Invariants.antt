use Rattle.std.proofs.Common.{◌≡◌, length}
use Rattle.bucket_table.specs.inside.Segments.{AddsSegments}
use Rattle.bucket_table.proofs.split.directory.add_segments.Given as goal

abbrev pub invariant-loop : goal.invariant-loop
invariant-loop l = AddsSegments l.fn.segments.items l.segments.items × (length l.segments.items ≡ l.counter)
