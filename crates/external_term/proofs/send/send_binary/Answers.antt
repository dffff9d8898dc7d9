use Rattle.std.proofs.Common.{◌≡◌, ◌∷◌, List, ℕ, length}
use Rattle.external_term.specs.Encoding.{big4}
use Rattle.external_term.proofs.SentPieces.{form-is, appends-as, prefix-as, sends-first, sends-then}
use Rattle.external_term.proofs.send.send_binary.Goals as goal

pub returns-in_err-send_bytes-clause-sent : goal.returns-in_err-send_bytes-clause-sent
returns-in_err-send_bytes-clause-sent g c =
    let bs = c.args.bytes.now in
    let header : List ℕ = 109 ∷ big4 (length bs) in
    let form : c.as_slice.result.now ≡ header = form-is c.clear.new.self.items c.put_tag_and_u32.new.out.items c.as_slice.result.now header c.clear.ensures.items c.put_tag_and_u32.ensures.items c.as_slice.ensures.value in
    sends-first (g.W.Write.contents c.args.out.now) (g.W.Write.contents c.send_bytes.new.out) header bs c.from_residual.result c.from_residual.ensures.0
    (prefix-as (g.W.Write.contents c.args.out.now) (g.W.Write.contents c.send_bytes.new.out) c.as_slice.result.now header form c.in_err-send_bytes.ensures)

pub returns-clause-sent : goal.returns-clause-sent
returns-clause-sent g c =
    let bs = c.args.bytes.now in
    let header : List ℕ = 109 ∷ big4 (length bs) in
    let form : c.as_slice.result.now ≡ header = form-is c.clear.new.self.items c.put_tag_and_u32.new.out.items c.as_slice.result.now header c.clear.ensures.items c.put_tag_and_u32.ensures.items c.as_slice.ensures.value in
    sends-then (g.W.Write.contents c.args.out.now) (g.W.Write.contents c.send_bytes.new.out) (g.W.Write.contents c.send_bytes-2.new.out) header bs c.send_bytes-2.result
    (appends-as (g.W.Write.contents c.args.out.now) (g.W.Write.contents c.send_bytes.new.out) c.as_slice.result.now header form c.in_ok-send_bytes.ensures) c.send_bytes-2.ensures
