use Rattle.std.proofs.Common.{[], ◌∷◌}
use Rattle.std.proofs.lemmas.Result.{err_from_is_err_and}
use Rattle.term_text.specs.Printed.{text_of_term}
use Rattle.ets_packets.proofs.KnownBytes.{on-ok, on-err, sends-two, breaks-first, breaks-two}
use Rattle.ets_packets.proofs.output.Output.add_term_line.Goals as goal

pub returns-in_err-add_term_text-clause-err : goal.returns-in_err-add_term_text-clause-err
returns-in_err-add_term_text-clause-err g c = rw (err_from_is_err_and c.from_residual.result c.from_residual.ensures.1).1 (breaks-first (g.W.Write.contents c.args.self.now.writer.now) (g.W.Write.contents c.add_term_text.new.self.writer.now) c.args.self.now.bytes.now.items (text_of_term c.args.term.now) (10 ∷ []) c.in_err-add_term_text.ensures.err)

pub returns-clause-ok : goal.returns-clause-ok
returns-clause-ok g c = on-ok c.add.result
    (λ q. sends-two (g.W.Write.contents c.args.self.now.writer.now) (g.W.Write.contents c.add_term_text.new.self.writer.now) (g.W.Write.contents c.add.new.self.writer.now) c.args.self.now.bytes.now.items (text_of_term c.args.term.now) c.add_term_text.new.self.bytes.now.items (10 ∷ []) c.add.new.self.bytes.now.items c.in_ok-add_term_text.ensures.ok q) c.add.ensures.ok

pub returns-clause-err : goal.returns-clause-err
returns-clause-err g c = on-err c.add.result
    (λ q. breaks-two (g.W.Write.contents c.args.self.now.writer.now) (g.W.Write.contents c.add_term_text.new.self.writer.now) (g.W.Write.contents c.add.new.self.writer.now) c.args.self.now.bytes.now.items (text_of_term c.args.term.now) c.add_term_text.new.self.bytes.now.items (10 ∷ []) c.in_ok-add_term_text.ensures.ok q) c.add.ensures.err
