use Rattle.std.proofs.Common.{◌≡◌, ◌<◌, ◌++◌, [], length, List, ℕ}
use Rattle.ets_packets.specs.inside.Answering.{AnswersPackets, IsSkipped}
use Rattle.ets_packets.specs.Output.{HasWriterOf, buffered_bytes, writer_flow}
use Rattle.ets_packets.proofs.run.answer_buffered.Given as goal

abbrev pub invariant-loop-left : goal.invariant-loop-left
invariant-loop-left g l =
    ((part : List ℕ) → IsSkipped l.fn.most part l.fn.left
    → AnswersPackets l.fn.most (writer_flow g.W.Write.contents l.fn.output l.output) (buffered_bytes l.fn.output) (buffered_bytes l.output) (part ++ l.fn.buffer) l.buffer l.left l.fn.responder.store l.responder.store)
    × (0 < l.left → l.buffer ≡ []) × HasWriterOf l.fn.output l.output

abbrev pub decreases-loop-left : goal.decreases-loop-left
decreases-loop-left g l = length l.buffer
