use Rattle.std.proofs.Common.{◌∙◌, ◌++◌, List, ℕ, refl, subst}
use Rattle.std.proofs.lemmas.Result.{err_from_is_err_and}
use Rattle.ets_packets.specs.inside.Answering.{EndsAfter}
use Rattle.ets_packets.specs.Output.{buffered_bytes}
use Rattle.ets_packets.proofs.Progress.{end-ok, end-err, progress-start, refilled, refill-stops, write-stops, flush-stops, all-answered}
use Rattle.ets_packets.proofs.run.answer_all.Goals as goal

pub loop-read-init : goal.loop-read-init
loop-read-init g c =
    (progress-start c.args.most c.args.responder.now.store (g.R.Read.remaining c.args.reader.now) (g.W.Write.contents c.args.output.now.writer.now) c.args.buffer.now c.requires.buffer, c.requires.waiting, refl)

pub returns-in_err-refill-clause-err : goal.returns-in_err-refill-clause-err
returns-in_err-refill-clause-err g c =
    let p = err_from_is_err_and c.from_residual.result c.from_residual.ensures.1 in
    let l = c.loop-read in
    rw (p.1, p.2) (refill-stops c.args.most c.args.responder.now.store l.responder.store (g.R.Read.remaining c.args.reader.now) (g.R.Read.remaining l.reader) (g.R.Read.remaining c.refill.new.reader) (g.W.Write.contents c.args.output.now.writer.now) (g.W.Write.contents l.output.writer.now) l.buffer l.left c.in_err-refill.field-0.0 l.invariant.0 c.in_err-refill.ensures.err)

pub returns-then-branch-eq0-clause-ok : goal.returns-then-branch-eq0-clause-ok
returns-then-branch-eq0-clause-ok g c =
    let l = c.loop-read in
    let ends = subst (λ (k : List ℕ). EndsAfter l.left k c.end_after.result) c.bytes.ensures c.end_after.ensures in
    end-ok c.args.most c.args.responder.now.store l.responder.store (g.R.Read.remaining c.args.reader.now) (g.R.Read.remaining l.reader) (g.R.Read.remaining c.refill.new.reader) (g.W.Write.contents c.args.output.now.writer.now) (g.W.Write.contents l.output.writer.now) l.buffer c.refill.new.self l.left c.in_ok-refill.field-0 c.end_after.result
    l.invariant.0 c.in_ok-refill.ensures.ok c.if-branch-eq0.true ends

pub returns-then-branch-eq0-clause-err : goal.returns-then-branch-eq0-clause-err
returns-then-branch-eq0-clause-err g c =
    let l = c.loop-read in
    let ends = subst (λ (k : List ℕ). EndsAfter l.left k c.end_after.result) c.bytes.ensures c.end_after.ensures in
    end-err c.args.most c.args.responder.now.store l.responder.store (g.R.Read.remaining c.args.reader.now) (g.R.Read.remaining l.reader) (g.R.Read.remaining c.refill.new.reader) (g.W.Write.contents c.args.output.now.writer.now) (g.W.Write.contents l.output.writer.now) l.buffer c.refill.new.self l.left c.in_ok-refill.field-0 c.end_after.result
    l.invariant.0 c.in_ok-refill.ensures.ok c.if-branch-eq0.true ends

pub returns-in_err-left-clause-err : goal.returns-in_err-left-clause-err
returns-in_err-left-clause-err g c =
    let p = err_from_is_err_and c.from_residual-in_err-left.result c.from_residual-in_err-left.ensures.1 in
    let l = c.loop-read in
    let most = c.args.most in
    let start = c.args.responder.now.store in
    let before = g.R.Read.remaining c.args.reader.now in
    let now = g.R.Read.remaining c.refill.new.reader in
    let old = g.W.Write.contents c.args.output.now.writer.now in
    let w1 = g.W.Write.contents l.output.writer.now in
    let part = l.invariant.0.part in
    let a = refilled most start l.responder.store before (g.R.Read.remaining l.reader) now old w1 l.buffer c.refill.new.self l.left c.in_ok-refill.field-0 l.invariant.0 c.in_ok-refill.ensures.ok in
    rw (p.1, p.2) (write-stops most start l.responder.store before now old w1 (g.W.Write.contents c.answer_buffered.new.output.writer.now) (part ++ c.refill.new.self) (buffered_bytes l.output) a.0 a.1 l.invariant.1 (c.in_err-left.ensures.err part l.invariant.0.skipped))

pub returns-in_err-flush-clause-err : goal.returns-in_err-flush-clause-err
returns-in_err-flush-clause-err g c =
    let p = err_from_is_err_and c.from_residual-in_err-flush.result c.from_residual-in_err-flush.ensures.1 in
    let l = c.loop-read in
    let most = c.args.most in
    let start = c.args.responder.now.store in
    let before = g.R.Read.remaining c.args.reader.now in
    let now = g.R.Read.remaining c.refill.new.reader in
    let old = g.W.Write.contents c.args.output.now.writer.now in
    let w1 = g.W.Write.contents l.output.writer.now in
    let part = l.invariant.0.part in
    let a = refilled most start l.responder.store before (g.R.Read.remaining l.reader) now old w1 l.buffer c.refill.new.self l.left c.in_ok-refill.field-0 l.invariant.0 c.in_ok-refill.ensures.ok in
    let all = c.in_ok-left.ensures.ok part l.invariant.0.skipped in
    rw (p.1, p.2) (flush-stops most start l.responder.store c.answer_buffered.new.responder.store before now old w1 (g.W.Write.contents c.answer_buffered.new.output.writer.now) (g.W.Write.contents c.flush.new.self.writer.now) (part ++ c.refill.new.self) c.answer_buffered.new.buffer (buffered_bytes l.output) (buffered_bytes c.answer_buffered.new.output) c.in_ok-left.left
    a.0 a.1 l.invariant.1 all.answered c.in_err-flush.ensures.err)

pub loop-read-preserved : goal.loop-read-preserved
loop-read-preserved g c =
    let l = c.loop-read in
    let most = c.args.most in
    let start = c.args.responder.now.store in
    let before = g.R.Read.remaining c.args.reader.now in
    let now = g.R.Read.remaining c.refill.new.reader in
    let old = g.W.Write.contents c.args.output.now.writer.now in
    let w1 = g.W.Write.contents l.output.writer.now in
    let part = l.invariant.0.part in
    let a = refilled most start l.responder.store before (g.R.Read.remaining l.reader) now old w1 l.buffer c.refill.new.self l.left c.in_ok-refill.field-0 l.invariant.0 c.in_ok-refill.ensures.ok in
    let all = c.in_ok-left.ensures.ok part l.invariant.0.skipped in
    let done = all-answered most start l.responder.store c.answer_buffered.new.responder.store before now old w1 (g.W.Write.contents c.answer_buffered.new.output.writer.now) (g.W.Write.contents c.flush.new.self.writer.now) (part ++ c.refill.new.self) c.answer_buffered.new.buffer (buffered_bytes l.output) (buffered_bytes c.answer_buffered.new.output) (buffered_bytes c.flush.new.self) c.in_ok-left.left
    a.0 a.1 l.invariant.1 all.answered c.in_ok-flush.ensures.ok c.in_ok-flush.ensures.empty in (
      record { part = all.answered.part; answered = done.0; end = done.1; skipped = all.answered.skipped; unfinished = all.unfinished },
      c.in_ok-flush.ensures.empty,
      c.flush.ensures.same_writer ∙ (c.answer_buffered.ensures.same_writer ∙ l.invariant.2),
    )
