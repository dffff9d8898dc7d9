use Rattle.std.proofs.Common.{[], ◌∷◌, ◌++◌, length, List, ℕ, subst}
use Rattle.std.proofs.lemmas.Result.{err_from_is_err_and}
use Rattle.ets_packets.specs.Packets.{big4}
use Rattle.ets_packets.specs.Output.{Sends, Breaks, buffered_bytes}
use Rattle.ets_packets.proofs.KnownBytes.{between, on-ok, on-err, sends-two, breaks-first, breaks-two}
use Rattle.ets_packets.proofs.run.add_reply.Goals as goal

abbrev head : ℕ → List ℕ → List ℕ
head status rest = big4 (length (status ∷ rest)) ++ status ∷ []

pub returns-in_err-add-clause-err : goal.returns-in_err-add-clause-err
returns-in_err-add-clause-err g c =
    let old = g.W.Write.contents c.args.output.now.writer.now in
    let new = g.W.Write.contents c.add.new.self.writer.now in
    let broken = subst (λ (k : List ℕ). Breaks (between old new) (buffered_bytes c.args.output.now ++ k)) c.reply_prefix.ensures c.in_err-add.ensures.err in
    rw (err_from_is_err_and c.from_residual.result c.from_residual.ensures.1).1 (breaks-first old new (buffered_bytes c.args.output.now) (head c.args.status c.args.payload.now) c.args.payload.now broken)

pub returns-clause-ok : goal.returns-clause-ok
returns-clause-ok g c =
    let old = g.W.Write.contents c.args.output.now.writer.now in
    let mid = g.W.Write.contents c.add.new.self.writer.now in
    let new = g.W.Write.contents c.add-2.new.self.writer.now in
    let sent = subst (λ (k : List ℕ). Sends (between old mid) (buffered_bytes c.args.output.now ++ k) (buffered_bytes c.add.new.self)) c.reply_prefix.ensures c.in_ok-add.ensures.ok in
    on-ok c.add-2.result
    (λ q. sends-two old mid new (buffered_bytes c.args.output.now) (head c.args.status c.args.payload.now) (buffered_bytes c.add.new.self) c.args.payload.now (buffered_bytes c.add-2.new.self) sent q) c.add-2.ensures.ok

pub returns-clause-err : goal.returns-clause-err
returns-clause-err g c =
    let old = g.W.Write.contents c.args.output.now.writer.now in
    let mid = g.W.Write.contents c.add.new.self.writer.now in
    let new = g.W.Write.contents c.add-2.new.self.writer.now in
    let sent = subst (λ (k : List ℕ). Sends (between old mid) (buffered_bytes c.args.output.now ++ k) (buffered_bytes c.add.new.self)) c.reply_prefix.ensures c.in_ok-add.ensures.ok in
    on-err c.add-2.result
    (λ q. breaks-two old mid new (buffered_bytes c.args.output.now) (head c.args.status c.args.payload.now) (buffered_bytes c.add.new.self) c.args.payload.now sent q) c.add-2.ensures.err
