use Rattle.std.proofs.Common.{Some, None}
use Rattle.bucket_table.proofs.hints.Invariant.{cleared-grown}
use Rattle.bucket_table.proofs.split.hint_list.HintList.of_empty_intervals.Goals as goal

pub returns : goal.returns
returns c = cleared-grown c.new-hints.result.items c.resize.new.self.items c.empty.result (Some None) c.args.intervals _ c.new-hints.ensures.items c.empty.ensures c.new-hints.ensures.len c.in_ok-resize.ensures.items
