use Rattle.std.proofs.lemmas.Result.{err_from_is_err_and}
use Rattle.std.proofs.Common.{flat_map}
use Rattle.ets_packets.proofs.KnownBytes.{on-ok, on-err, sends-two, breaks-first, breaks-two}
use Rattle.ets_script.specs.Replies.{answer_text}
use Rattle.ets_script.specs.inside.Journal.{run_text}
use Rattle.ets_script.proofs.journal.print_all.Goals as goal

pub returns-in_err-print_answers-clause-err : goal.returns-in_err-print_answers-clause-err
returns-in_err-print_answers-clause-err g c =
    rw (err_from_is_err_and c.from_residual.result c.from_residual.ensures.1).1
    (breaks-first (g.W.Write.contents c.args.output.now.writer.now) (g.W.Write.contents c.print_answers.new.output.writer.now) c.args.output.now.bytes.now.items (flat_map answer_text c.args.planned.now.answers) (run_text c.args.planned.now.names c.args.run.now) (rw c.as_slice.ensures at c.in_err-print_answers.ensures.err))

pub returns-clause-ok : goal.returns-clause-ok
returns-clause-ok g c =
    on-ok c.print_run.result
    (λ q. sends-two (g.W.Write.contents c.args.output.now.writer.now) (g.W.Write.contents c.print_answers.new.output.writer.now) (g.W.Write.contents c.print_run.new.output.writer.now) c.args.output.now.bytes.now.items (flat_map answer_text c.args.planned.now.answers) c.print_answers.new.output.bytes.now.items (run_text c.args.planned.now.names c.args.run.now) c.print_run.new.output.bytes.now.items (rw c.as_slice.ensures at c.in_ok-print_answers.ensures.ok) q) c.print_run.ensures.ok

pub returns-clause-err : goal.returns-clause-err
returns-clause-err g c =
    on-err c.print_run.result
    (λ q. breaks-two (g.W.Write.contents c.args.output.now.writer.now) (g.W.Write.contents c.print_answers.new.output.writer.now) (g.W.Write.contents c.print_run.new.output.writer.now) c.args.output.now.bytes.now.items (flat_map answer_text c.args.planned.now.answers) c.print_answers.new.output.bytes.now.items (run_text c.args.planned.now.names c.args.run.now) (rw c.as_slice.ensures at c.in_ok-print_answers.ensures.ok) q) c.print_run.ensures.err
