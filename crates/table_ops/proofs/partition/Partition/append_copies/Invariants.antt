use Rattle.std.proofs.Common.{◌≡◌, ◌++◌, take}
use Rattle.table_ops.proofs.partition.Partition.append_copies.Given as goal

abbrev pub invariant-loop-object : goal.invariant-loop-object
invariant-loop-object l = l.self.kept ≡ l.initial.self.kept ++ take l.object-index l.objects
