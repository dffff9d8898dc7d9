use Rattle.std.proofs.Common.{◌∙◌, refl, sym, subst}
use Rattle.std.proofs.lemmas.Result.{err_from_is_err_and}
use Rattle.ets_script.specs.Script.{ScriptState}
use Rattle.ets_script.proofs.BufferedLines.{refill-end}
use Rattle.ets_script.proofs.Progress.{Progress, progress-start, progress-line, progress-read}
use Rattle.ets_script.proofs.ScriptEnds.{broken-line, flush-broken, read-broken, script-completes, end-broken}
use Rattle.ets_script.proofs.run.answer_all.Goals as goal

pub loop-taken-init : goal.loop-taken-init
loop-taken-init g c =
    (progress-start c.args.script.now c.args.buffer.now (g.R.Read.remaining c.args.reader.now) c.args.output.now.bytes.now.items (g.W.Write.contents c.args.output.now.writer.now) c.requires.waiting c.requires.buffer.0 c.requires.buffer.1, refl)

pub returns-in_err-flush-clause-err : goal.returns-in_err-flush-clause-err
returns-in_err-flush-clause-err g c =
    let p = err_from_is_err_and c.from_residual.result c.from_residual.ensures.1 in
    let l = c.loop-taken in
    rw (p.1, p.2) (flush-broken c.args.script.now l.script (g.R.Read.remaining c.args.reader.now) (g.W.Write.contents c.args.output.now.writer.now) (g.W.Write.contents l.output.writer.now) (g.W.Write.contents c.flush.new.self.writer.now) l.buffer (g.R.Read.remaining l.reader) l.output.bytes.now.items l.invariant.0 c.in_err-flush.ensures.err)

pub returns-in_err-refill-clause-err : goal.returns-in_err-refill-clause-err
returns-in_err-refill-clause-err g c =
    let p = err_from_is_err_and c.from_residual-in_err-refill.result c.from_residual-in_err-refill.ensures.1 in
    let l = c.loop-taken in
    rw (p.1, p.2) (read-broken c.args.script.now l.script (g.R.Read.remaining c.args.reader.now) (g.W.Write.contents c.args.output.now.writer.now) (g.W.Write.contents l.output.writer.now) (g.W.Write.contents c.flush.new.self.writer.now) l.buffer c.skip_long.new.self (g.R.Read.remaining l.reader) (g.R.Read.remaining c.refill.new.reader) l.output.bytes.now.items c.flush.new.self.bytes.now.items
    l.invariant.0 c.in_default.ensures.0 c.in_ok-flush.ensures.ok c.in_ok-flush.ensures.empty c.skip_long.ensures c.in_err-refill.ensures.err.0)

pub returns-in_err-answer_last-clause-err : goal.returns-in_err-answer_last-clause-err
returns-in_err-answer_last-clause-err g c =
    let p = err_from_is_err_and c.from_residual-in_err-answer_last.result c.from_residual-in_err-answer_last.ensures.1 in
    let l = c.loop-taken in
    let before = g.R.Read.remaining c.args.reader.now in
    let left = g.R.Read.remaining c.refill.new.reader in
    let old = g.W.Write.contents c.args.output.now.writer.now in
    let w = g.W.Write.contents c.flush.new.self.writer.now in
    let going = progress-read c.args.script.now l.script before old (g.W.Write.contents l.output.writer.now) w l.buffer c.skip_long.new.self c.refill.new.self (g.R.Read.remaining l.reader) left l.output.bytes.now.items c.flush.new.self.bytes.now.items c.in_ok-refill.field-0 l.invariant.0 c.in_default.ensures.0 c.in_ok-flush.ensures.ok c.skip_long.ensures c.in_ok-refill.ensures.ok in
    let now = subst (λ (s : ScriptState). Progress c.args.script.now before old c.refill.new.self left c.flush.new.self.bytes.now.items w s) (sym c.in_default.ensures.1) going in
    rw (p.1, p.2) (end-broken c.args.script.now c.answer_next.new.script c.answer_last.new.script before old w (g.W.Write.contents c.answer_last.new.output.writer.now) c.refill.new.self left c.flush.new.self.bytes.now.items now
    (refill-end l.buffer c.skip_long.new.self c.refill.new.self (g.R.Read.remaining l.reader) left c.in_ok-refill.field-0 c.in_default.ensures.0 c.skip_long.ensures c.in_ok-refill.ensures.ok c.if-branch-eq0.true) c.in_err-answer_last.ensures.err)

pub returns-then-branch-eq0-clause-ok : goal.returns-then-branch-eq0-clause-ok
returns-then-branch-eq0-clause-ok g c =
    let l = c.loop-taken in
    let before = g.R.Read.remaining c.args.reader.now in
    let left = g.R.Read.remaining c.refill.new.reader in
    let old = g.W.Write.contents c.args.output.now.writer.now in
    let w = g.W.Write.contents c.flush.new.self.writer.now in
    let going = progress-read c.args.script.now l.script before old (g.W.Write.contents l.output.writer.now) w l.buffer c.skip_long.new.self c.refill.new.self (g.R.Read.remaining l.reader) left l.output.bytes.now.items c.flush.new.self.bytes.now.items c.in_ok-refill.field-0 l.invariant.0 c.in_default.ensures.0 c.in_ok-flush.ensures.ok c.skip_long.ensures c.in_ok-refill.ensures.ok in
    let now = subst (λ (s : ScriptState). Progress c.args.script.now before old c.refill.new.self left c.flush.new.self.bytes.now.items w s) (sym c.in_default.ensures.1) going in
    script-completes c.args.script.now c.answer_next.new.script c.answer_last.new.script before old w (g.W.Write.contents c.answer_last.new.output.writer.now) c.refill.new.self left c.flush.new.self.bytes.now.items now
    (refill-end l.buffer c.skip_long.new.self c.refill.new.self (g.R.Read.remaining l.reader) left c.in_ok-refill.field-0 c.in_default.ensures.0 c.skip_long.ensures c.in_ok-refill.ensures.ok c.if-branch-eq0.true) c.in_ok-answer_last.ensures.ok

pub loop-taken-preserved-in_default : goal.loop-taken-preserved-in_default
loop-taken-preserved-in_default g c =
    let l = c.loop-taken in
    let before = g.R.Read.remaining c.args.reader.now in
    let left = g.R.Read.remaining c.refill.new.reader in
    let old = g.W.Write.contents c.args.output.now.writer.now in
    let w = g.W.Write.contents c.flush.new.self.writer.now in
    let going = progress-read c.args.script.now l.script before old (g.W.Write.contents l.output.writer.now) w l.buffer c.skip_long.new.self c.refill.new.self (g.R.Read.remaining l.reader) left l.output.bytes.now.items c.flush.new.self.bytes.now.items c.in_ok-refill.field-0 l.invariant.0 c.in_default.ensures.0 c.in_ok-flush.ensures.ok c.skip_long.ensures c.in_ok-refill.ensures.ok in (
      subst (λ (s : ScriptState). Progress c.args.script.now before old c.refill.new.self left c.flush.new.self.bytes.now.items w s) (sym c.in_default.ensures.1) going,
      c.flush.ensures.same_writer ∙ l.invariant.1,
    )

pub returns-in_err-print-clause-err : goal.returns-in_err-print-clause-err
returns-in_err-print-clause-err g c =
    let p = err_from_is_err_and c.from_residual-in_err-print.result c.from_residual-in_err-print.ensures.1 in
    let l = c.loop-taken in
    let n = c.in-Some.ensures in
    rw (p.1, p.2) (broken-line c.args.script.now l.script c.answer_next.new.script (g.R.Read.remaining c.args.reader.now) (g.W.Write.contents c.args.output.now.writer.now) (g.W.Write.contents l.output.writer.now) (g.W.Write.contents c.print.new.output.writer.now) l.buffer (g.R.Read.remaining l.reader) l.output.bytes.now.items c.in-Some.taken n.line c.answer_next.new.answer
    l.invariant.0 n.ends n.answers c.in_err-print.ensures.err)

pub loop-taken-preserved : goal.loop-taken-preserved
loop-taken-preserved g c =
    let l = c.loop-taken in
    let n = c.in-Some.ensures in
    let now = progress-line c.args.script.now l.script c.answer_next.new.script (g.R.Read.remaining c.args.reader.now) (g.W.Write.contents c.args.output.now.writer.now) (g.W.Write.contents l.output.writer.now) (g.W.Write.contents c.print.new.output.writer.now) l.buffer c.consume.new.self (g.R.Read.remaining l.reader) l.output.bytes.now.items c.print.new.output.bytes.now.items c.in-Some.taken n.line c.answer_next.new.answer
    l.invariant.0 n.ends n.answers c.in_ok-print.ensures.ok c.consume.ensures.bytes c.consume.ensures.whole in
    (now, c.print.ensures.same_writer ∙ l.invariant.1)
