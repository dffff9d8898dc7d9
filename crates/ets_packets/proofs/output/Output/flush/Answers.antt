use Rattle.std.proofs.Common.{◌≡◌, [], rules}
use Rattle.ets_packets.proofs.KnownBytes.{appends-kept, sends-all}
use Rattle.ets_packets.proofs.output.Output.flush.Goals as goal

pub returns-in-Ok-clause-ok : goal.returns-in-Ok-clause-ok
returns-in-Ok-clause-ok g c =
    let none : c.send.new.self.bytes.now.items ≡ [] = search rules in
    rw none (sends-all _ _ _ (appends-kept (g.W.Write.contents c.args.self.now.writer.now) (g.W.Write.contents c.send.new.self.writer.now) (g.W.Write.contents c.flush.new.self) _ c.in_ok-send.ensures.ok c.in-Ok.ensures.bytes))
