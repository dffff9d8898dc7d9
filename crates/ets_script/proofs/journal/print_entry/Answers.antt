use Rattle.std.proofs.Common.{◌++◌, sym, ◌∙◌}
use Rattle.std.specs.Prelude.{codes}
use Rattle.std.proofs.lemmas.Result.{err_from_is_err_and}
use Rattle.ets_packets.proofs.KnownBytes.{on-ok, on-err}
use Rattle.ets_script.specs.Replies.{reply_text}
use Rattle.ets_script.proofs.Printing.{line-sent, line-first, line-broken, entry-text-own}
use Rattle.ets_script.proofs.journal.print_entry.Goals as goal

pub returns-in_err-print_name-in-Some-clause-err : goal.returns-in_err-print_name-in-Some-clause-err
returns-in_err-print_name-in-Some-clause-err g c =
    let is = entry-text-own c.args.names.now c.args.entry.now c.in-Some.number c.name.result.now (sym c.process.ensures ∙ c.in-Some.is) c.name.ensures in
    rw ((err_from_is_err_and c.from_residual.result c.from_residual.ensures.1).1, is) (line-first (g.W.Write.contents c.args.output.now.writer.now) (g.W.Write.contents c.print_name.new.output.writer.now) c.args.output.now.bytes.now.items c.name.result.now (codes " ") (reply_text c.args.entry.now.reply ++ codes "\n") c.in_err-print_name-in-Some.ensures.err)

pub returns-in_ok-print_name-in-Some-clause-ok : goal.returns-in_ok-print_name-in-Some-clause-ok
returns-in_ok-print_name-in-Some-clause-ok g c =
    let is = entry-text-own c.args.names.now c.args.entry.now c.in-Some.number c.name.result.now (sym c.process.ensures ∙ c.in-Some.is) c.name.ensures in
    on-ok c.print_reply.result
    (λ q. rw is (line-sent (g.W.Write.contents c.args.output.now.writer.now) (g.W.Write.contents c.print_name.new.output.writer.now) (g.W.Write.contents c.print_reply.new.output.writer.now) c.args.output.now.bytes.now.items c.name.result.now (codes " ") c.print_name.new.output.bytes.now.items (reply_text c.args.entry.now.reply ++ codes "\n") c.print_reply.new.output.bytes.now.items c.in_ok-print_name-in-Some.ensures.ok q)) c.print_reply.ensures.ok

pub returns-in_ok-print_name-in-Some-clause-err : goal.returns-in_ok-print_name-in-Some-clause-err
returns-in_ok-print_name-in-Some-clause-err g c =
    let is = entry-text-own c.args.names.now c.args.entry.now c.in-Some.number c.name.result.now (sym c.process.ensures ∙ c.in-Some.is) c.name.ensures in
    on-err c.print_reply.result
    (λ q. rw is (line-broken (g.W.Write.contents c.args.output.now.writer.now) (g.W.Write.contents c.print_name.new.output.writer.now) (g.W.Write.contents c.print_reply.new.output.writer.now) c.args.output.now.bytes.now.items c.name.result.now (codes " ") c.print_name.new.output.bytes.now.items (reply_text c.args.entry.now.reply ++ codes "\n") c.in_ok-print_name-in-Some.ensures.ok q)) c.print_reply.ensures.err
