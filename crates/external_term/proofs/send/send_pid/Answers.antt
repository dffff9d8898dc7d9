use Rattle.std.proofs.Common.{◌≡◌}
use Rattle.external_term.specs.Encoding.{pid_bytes}
use Rattle.external_term.proofs.SentPieces.{form-is, sends-as}
use Rattle.external_term.proofs.send.send_pid.Goals as goal

pub returns-clause-sent : goal.returns-clause-sent
returns-clause-sent g c =
    let form : c.as_slice.result.now ≡ pid_bytes c.args.n =
    form-is c.clear.new.self.items c.append_pid.new.out.items c.as_slice.result.now (pid_bytes c.args.n) c.clear.ensures.items c.append_pid.ensures.items c.as_slice.ensures.value in
    sends-as (g.W.Write.contents c.args.out.now) (g.W.Write.contents c.send_bytes.new.out) c.as_slice.result.now (pid_bytes c.args.n) c.send_bytes.result form c.send_bytes.ensures
