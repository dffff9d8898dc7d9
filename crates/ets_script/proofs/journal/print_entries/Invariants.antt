use Rattle.std.proofs.Common.{drop, flat_map}
use Rattle.ets_packets.specs.Output.{HasWriterOf}
use Rattle.ets_script.specs.Threads.{entry_text}
use Rattle.ets_script.proofs.Printing.{Printed}
use Rattle.ets_script.proofs.journal.print_entries.Given as goal

abbrev pub invariant-loop-entry : goal.invariant-loop-entry
invariant-loop-entry g l =
    Printed (g.W.Write.contents l.initial.output.writer.now) l.initial.output.bytes.now.items (flat_map (entry_text l.names) l.entries) (g.W.Write.contents l.output.writer.now) l.output.bytes.now.items (flat_map (entry_text l.names) (drop l.entry-index l.entries))
    × HasWriterOf l.initial.output l.output
