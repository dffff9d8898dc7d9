use Rattle.std.proofs.Common.{◌≡◌, [], rules}
use Rattle.std.proofs.lemmas.Result.{err_from_is_err_and}
use Rattle.ets_packets.proofs.KnownBytes.{on-ok, on-err, breaks-longer, sends-behind, breaks-behind}
use Rattle.ets_packets.proofs.output.Output.add.Goals as goal

pub returns-in_err-send-clause-err : goal.returns-in_err-send-clause-err
returns-in_err-send-clause-err g c =
    let kept : c.extend_from_slice.new.self.items ≡ c.args.self.now.bytes.now.items = search rules in
    rw ((err_from_is_err_and c.from_residual.result c.from_residual.ensures.1).1, ← kept)
    (breaks-longer (g.W.Write.contents c.args.self.now.writer.now) (g.W.Write.contents c.send.new.self.writer.now) c.extend_from_slice.new.self.items c.args.bytes.now c.in_err-send.ensures.err)

pub returns-then-is_err-clause-ok : goal.returns-then-is_err-clause-ok
returns-then-is_err-clause-ok g c =
    let kept : c.extend_from_slice.new.self.items ≡ c.args.self.now.bytes.now.items = search rules in
    let none : c.send.new.self.bytes.now.items ≡ [] = search rules in
    on-ok c.write_whole.result
    (λ q. rw (← kept, none) (sends-behind (g.W.Write.contents c.args.self.now.writer.now) (g.W.Write.contents c.send.new.self.writer.now) (g.W.Write.contents c.write_whole.new.writer) c.extend_from_slice.new.self.items c.args.bytes.now c.in_ok-send.ensures.ok q))
    c.write_whole.ensures.ok

pub returns-then-is_err-clause-err : goal.returns-then-is_err-clause-err
returns-then-is_err-clause-err g c =
    let kept : c.extend_from_slice.new.self.items ≡ c.args.self.now.bytes.now.items = search rules in
    on-err c.write_whole.result
    (λ q. rw (← kept) (breaks-behind (g.W.Write.contents c.args.self.now.writer.now) (g.W.Write.contents c.send.new.self.writer.now) (g.W.Write.contents c.write_whole.new.writer) c.extend_from_slice.new.self.items c.args.bytes.now c.in_ok-send.ensures.ok q))
    c.write_whole.ensures.err
