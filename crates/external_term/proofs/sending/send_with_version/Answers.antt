use Rattle.std.proofs.Common.{◌∷◌, [], List, ℕ}
use Rattle.external_term.specs.Encoding.{encode}
use Rattle.external_term.proofs.SentPieces.{sends-first, sends-then}
use Rattle.external_term.proofs.sending.send_with_version.Goals as goal

pub returns-in_err-send_bytes : goal.returns-in_err-send_bytes
returns-in_err-send_bytes g c =
    let version : List ℕ = 131 ∷ [] in
    sends-first (g.W.Write.contents c.args.out.now) (g.W.Write.contents c.send_bytes.new.out) version (encode c.args.term.now) c.from_residual.result c.from_residual.ensures.0 c.in_err-send_bytes.ensures

pub returns : goal.returns
returns g c =
    let version : List ℕ = 131 ∷ [] in
    sends-then (g.W.Write.contents c.args.out.now) (g.W.Write.contents c.send_bytes.new.out) (g.W.Write.contents c.send_term.new.out) version (encode c.args.term.now) c.send_term.result c.in_ok-send_bytes.ensures c.send_term.ensures.sent
