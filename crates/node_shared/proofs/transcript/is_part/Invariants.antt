use Rattle.std.proofs.Common.{◌≡◌, ◌≤◌, take, length}
use Rattle.node_shared.specs.Journal.{entries_of}
use Rattle.node_shared.proofs.transcript.is_part.Given as goal

abbrev pub invariant-loop-entry : goal.invariant-loop-entry
invariant-loop-entry l = record {
  part : entries_of l.pid (take l.entry-index l.journal) ≡ take l.at l.own;
  room : l.at ≤ length l.own;
}
