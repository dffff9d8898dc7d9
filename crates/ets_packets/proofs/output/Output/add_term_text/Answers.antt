use Rattle.std.proofs.Common.{◌≡◌, List, ℕ, [], subst, rules}
use Rattle.std.proofs.lemmas.Result.{err_from_is_err_and}
use Rattle.std.specs.Io.KnownBytes.{Appends}
use Rattle.term_text.specs.Printed.{text_of_term}
use Rattle.ets_packets.specs.Output.{Breaks}
use Rattle.ets_packets.proofs.KnownBytes.{between, breaks-longer, sends-behind, breaks-behind}
use Rattle.ets_packets.proofs.output.Output.add_term_text.Goals as goal

pub returns-in_err-send-clause-err : goal.returns-in_err-send-clause-err
returns-in_err-send-clause-err g c =
    let kept : c.append_term.new.out.items ≡ c.args.self.now.bytes.now.items = search rules in
    let broken = subst (λ (k : List ℕ). Breaks (between (g.W.Write.contents c.args.self.now.writer.now) (g.W.Write.contents c.send.new.self.writer.now)) k) kept c.in_err-send.ensures.err in
    rw (err_from_is_err_and c.from_residual.result c.from_residual.ensures.1).1 (breaks-longer (g.W.Write.contents c.args.self.now.writer.now) (g.W.Write.contents c.send.new.self.writer.now) c.args.self.now.bytes.now.items (text_of_term c.args.term.now) broken)

pub returns-in-Ok-write_term-clause-ok : goal.returns-in-Ok-write_term-clause-ok
returns-in-Ok-write_term-clause-ok g c =
    let kept : c.append_term.new.out.items ≡ c.args.self.now.bytes.now.items = search rules in
    let none : c.send.new.self.bytes.now.items ≡ [] = search rules in
    let sent = subst (λ (k : List ℕ). Appends (g.W.Write.contents c.args.self.now.writer.now) (g.W.Write.contents c.send.new.self.writer.now) k) kept c.in_ok-send.ensures.ok in
    rw none (sends-behind (g.W.Write.contents c.args.self.now.writer.now) (g.W.Write.contents c.send.new.self.writer.now) (g.W.Write.contents c.write_term.new.out) c.args.self.now.bytes.now.items (text_of_term c.args.term.now) sent c.in-Ok-write_term.ensures)

pub returns-in-Err-write_term-clause-err : goal.returns-in-Err-write_term-clause-err
returns-in-Err-write_term-clause-err g c =
    let kept : c.append_term.new.out.items ≡ c.args.self.now.bytes.now.items = search rules in
    let sent = subst (λ (k : List ℕ). Appends (g.W.Write.contents c.args.self.now.writer.now) (g.W.Write.contents c.send.new.self.writer.now) k) kept c.in_ok-send.ensures.ok in
    let part = c.in-Err-write_term.ensures in
    breaks-behind (g.W.Write.contents c.args.self.now.writer.now) (g.W.Write.contents c.send.new.self.writer.now) (g.W.Write.contents c.write_term.new.out) c.args.self.now.bytes.now.items (text_of_term c.args.term.now) sent (record { sent = part.0; unsent = part.1; written = part.3; parts = part.2 })
