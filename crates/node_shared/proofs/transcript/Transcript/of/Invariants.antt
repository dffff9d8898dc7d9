use Rattle.std.proofs.Common.{◌≡◌, take, map}
use Rattle.node_shared.specs.Journal.{entries_of}
use Rattle.node_shared.proofs.transcript.Transcript.of.Given as goal

abbrev pub invariant-loop-entry : goal.invariant-loop-entry
invariant-loop-entry l = map (λ e. e.now) l.own.items ≡ entries_of l.pid (take l.entry-index l.self.entries.items)
