use Rattle.std.proofs.lemmas.Result.{err_from_is_err_and}
use Rattle.ets_script.specs.inside.Journal.{out_text}
use Rattle.ets_script.proofs.Printing.{out-ok, out-err, out-broken}
use Rattle.ets_script.proofs.journal.print_results.Goals as goal

pub returns-in_err-print_all-clause-err : goal.returns-in_err-print_all-clause-err
returns-in_err-print_all-clause-err g c =
    rw (err_from_is_err_and c.from_residual.result c.from_residual.ensures.1).1
    (out-broken (g.W.Write.contents c.args.output.now.writer.now) (g.W.Write.contents c.print_all.new.output.writer.now) c.args.output.now.bytes.now.items (out_text c.args.planned.now c.args.run.now) c.requires.waiting c.in_err-print_all.ensures.err)

pub returns-clause-ok : goal.returns-clause-ok
returns-clause-ok g c =
    out-ok c.flush.result (g.W.Write.contents c.args.output.now.writer.now) (g.W.Write.contents c.print_all.new.output.writer.now) (g.W.Write.contents c.flush.new.self.writer.now) c.args.output.now.bytes.now.items (out_text c.args.planned.now c.args.run.now) c.print_all.new.output.bytes.now.items c.flush.new.self.bytes.now.items
    c.requires.waiting c.in_ok-print_all.ensures.ok c.flush.ensures.ok c.flush.ensures.empty

pub returns-clause-err : goal.returns-clause-err
returns-clause-err g c =
    out-err c.flush.result (g.W.Write.contents c.args.output.now.writer.now) (g.W.Write.contents c.print_all.new.output.writer.now) (g.W.Write.contents c.flush.new.self.writer.now) c.args.output.now.bytes.now.items (out_text c.args.planned.now c.args.run.now) c.print_all.new.output.bytes.now.items
    c.requires.waiting c.in_ok-print_all.ensures.ok c.flush.ensures.err
