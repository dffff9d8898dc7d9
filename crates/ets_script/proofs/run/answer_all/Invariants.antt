use Rattle.std.proofs.Common.{◌+◌, ◌*◌, length}
use Rattle.ets_packets.specs.Output.{HasWriterOf}
use Rattle.ets_script.proofs.Progress.{Progress}
use Rattle.ets_script.proofs.run.answer_all.Given as goal

abbrev pub invariant-loop-taken : goal.invariant-loop-taken
invariant-loop-taken g l =
    Progress l.initial.script (g.R.Read.remaining l.initial.reader) (g.W.Write.contents l.initial.output.writer.now) l.buffer (g.R.Read.remaining l.reader) l.output.bytes.now.items (g.W.Write.contents l.output.writer.now) l.script
    × HasWriterOf l.initial.output l.output

abbrev pub decreases-loop-taken : goal.decreases-loop-taken
decreases-loop-taken g l = l.buffer.reads * 131073 + length l.buffer.bytes
