use Rattle.std.proofs.Common.{◌≡◌, ◌++◌, take, length}
use Rattle.ownership.proofs.ReassignedIndices.{HasReassigned}
use Rattle.ownership.proofs.indices.Indices.reassign_tables.Given as goal

abbrev pub invariant-loop-id : goal.invariant-loop-id
invariant-loop-id g l = HasReassigned l.self l.processes.entries l.pid (take l.id-index l.own) l.fn.tables.items l.tables.items

abbrev pub invariant-loop-i : goal.invariant-loop-i
invariant-loop-i g l = record {
  count : length l.self.fixed.items ≡ l.fixed;
  reassigned : HasReassigned l.self l.processes.entries l.pid (l.own ++ take l.i l.self.fixed.items) l.fn.tables.items l.tables.items;
}
