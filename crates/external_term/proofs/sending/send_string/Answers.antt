use Rattle.std.proofs.Common.{◌≡◌, ◌∷◌, ◌++◌, List, ℕ, length, map}
use Rattle.external_term.specs.Encoding.{big2, encode, char_of, string_bytes}
use Rattle.external_term.proofs.SentPieces.{form-is, appends-as, prefix-as, sends-first, sends-then, sends-as, string-pieces}
use Rattle.external_term.proofs.sending.send_string.Goals as goal

pub returns-in_err-send_bytes-clause-sent : goal.returns-in_err-send_bytes-clause-sent
returns-in_err-send_bytes-clause-sent g c =
    let ts = c.args.items.now in
    let old = g.W.Write.contents c.args.out.now in
    let now = g.W.Write.contents c.send_bytes.new.out in
    let header : List ℕ = 107 ∷ big2 (length ts) in
    let chars = map char_of (map encode ts) in
    let form : c.as_slice.result.now ≡ header = form-is c.clear.new.self.items c.put_tag_and_u16.new.out.items c.as_slice.result.now header c.clear.ensures.items c.put_tag_and_u16.ensures.items c.as_slice.ensures.value in
    sends-as old now (header ++ chars) (string_bytes (map encode ts)) c.from_residual.result (string-pieces ts)
    (sends-first old now header chars c.from_residual.result c.from_residual.ensures.0 (prefix-as old now c.as_slice.result.now header form c.in_err-send_bytes.ensures))

pub returns-clause-sent : goal.returns-clause-sent
returns-clause-sent g c =
    let ts = c.args.items.now in
    let old = g.W.Write.contents c.args.out.now in
    let now = g.W.Write.contents c.send_bytes.new.out in
    let new = g.W.Write.contents c.send_chars.new.out in
    let header : List ℕ = 107 ∷ big2 (length ts) in
    let chars = map char_of (map encode ts) in
    let form : c.as_slice.result.now ≡ header = form-is c.clear.new.self.items c.put_tag_and_u16.new.out.items c.as_slice.result.now header c.clear.ensures.items c.put_tag_and_u16.ensures.items c.as_slice.ensures.value in
    sends-as old new (header ++ chars) (string_bytes (map encode ts)) c.send_chars.result (string-pieces ts)
    (sends-then old now new header chars c.send_chars.result (appends-as old now c.as_slice.result.now header form c.in_ok-send_bytes.ensures) c.send_chars.ensures.sent)
