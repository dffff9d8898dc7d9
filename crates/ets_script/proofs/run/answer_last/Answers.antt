use Rattle.ets_script.proofs.ScriptEnds.{end-ok, end-err}
use Rattle.ets_script.proofs.run.answer_last.Goals as goal

pub returns-clause-ok : goal.returns-clause-ok
returns-clause-ok g c =
    end-ok c.flush.result c.args.buffer.now c.args.script.now c.answer_part-last.new.script c.args.output.now.bytes.now.items c.print.new.output.bytes.now.items c.flush.new.self.bytes.now.items (g.W.Write.contents c.args.output.now.writer.now) (g.W.Write.contents c.print.new.output.writer.now) (g.W.Write.contents c.flush.new.self.writer.now) c.answer_part-last.result
    c.answer_part-last.ensures c.in_ok-print.ensures.ok c.flush.ensures.ok c.flush.ensures.empty

pub returns-clause-err : goal.returns-clause-err
returns-clause-err g c =
    end-err c.flush.result c.args.buffer.now c.args.script.now c.answer_part-last.new.script c.args.output.now.bytes.now.items c.print.new.output.bytes.now.items (g.W.Write.contents c.args.output.now.writer.now) (g.W.Write.contents c.print.new.output.writer.now) (g.W.Write.contents c.flush.new.self.writer.now) c.answer_part-last.result
    c.answer_part-last.ensures c.in_ok-print.ensures.ok c.flush.ensures.err
