use Rattle.std.proofs.Common.{◌^◌, length}
use Rattle.node_list.specs.Places.{cells_after}
use Rattle.bucket_table.specs.inside.Intervals.{IsBeforeInterval}
use Rattle.bucket_table.proofs.split.hints.Hints.scan_to_interval.Given as goal

abbrev pub invariant-loop-next : goal.invariant-loop-next
invariant-loop-next l = IsBeforeInterval (2 ^ l.self.interval_bits) l.interval l.at l.list.cells

abbrev pub decreases-loop-next : goal.decreases-loop-next
decreases-loop-next l = length (cells_after l.at l.list.cells)
