use Rattle.std.proofs.Common.{drop}
use Rattle.ets_packets.specs.Output.{HasWriterOf}
use Rattle.ets_script.specs.Threads.{stopped_text}
use Rattle.ets_script.proofs.Printing.{Printed}
use Rattle.ets_script.proofs.journal.print_stopped_processes.Given as goal

abbrev pub invariant-loop-number : goal.invariant-loop-number
invariant-loop-number g l =
    Printed (g.W.Write.contents l.initial.output.writer.now) l.initial.output.bytes.now.items (stopped_text l.names l.left) (g.W.Write.contents l.output.writer.now) l.output.bytes.now.items (stopped_text (drop l.number l.names) (drop l.number l.left))
    × HasWriterOf l.initial.output l.output
