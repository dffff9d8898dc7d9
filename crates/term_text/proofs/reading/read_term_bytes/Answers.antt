use Rattle.std.proofs.Common.{arith, []}
use Rattle.term_text.proofs.FaultLaws.{returned-front, returned-fault}
use Rattle.term_text.proofs.Offsets.{reads-gives}
use Rattle.term_text.proofs.reading.read_term_bytes.Goals as goal

pub returns : goal.returns
returns c =
    let text = c.args.text.now in
    let r = c.term_at.result in
    let e = reads-gives text r (c.term_at.ensures.reads [] (omega arith)) in
    record { found = returned-front text r e; fault = returned-fault text r e; exactly = e }
