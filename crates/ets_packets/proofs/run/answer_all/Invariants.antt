use Rattle.std.proofs.Common.{◌≡◌, []}
use Rattle.ets_packets.specs.Output.{HasWriterOf, buffered_bytes}
use Rattle.ets_packets.proofs.Progress.{Progress, passed}
use Rattle.ets_packets.proofs.run.answer_all.Given as goal

abbrev pub invariant-loop-read : goal.invariant-loop-read
invariant-loop-read g l =
    Progress l.initial.most l.initial.responder.store
    (passed (g.R.Read.remaining l.initial.reader) (g.R.Read.remaining l.reader) (g.W.Write.contents l.initial.output.writer.now) (g.W.Write.contents l.output.writer.now))
    l.buffer l.left l.responder.store
    × (buffered_bytes l.output ≡ []) × HasWriterOf l.initial.output l.output
